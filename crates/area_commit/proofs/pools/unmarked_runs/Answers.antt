use Rattle.std.proofs.Common.{◌≡◌, ◌+◌, length}
use Rattle.block_alloc.specs.Value.{FreeBlocks}
use Rattle.block_alloc.specs.Runs.{unmarked_blocks}
use Rattle.area_commit.specs.Value.{HasUnmarked}
use Rattle.area_commit.proofs.Splits.{ok_at, with_ok}
use Rattle.area_commit.proofs.Members.{has_unmarked}
use Rattle.area_commit.proofs.pools.unmarked_runs.Goals as goal

pub returns-clause-free : goal.returns-clause-free
returns-clause-free c m t shows = with_ok _ (HasUnmarked m t) (λ p is.
    let first = c.args.first in
    let marks = c.args.marks.now in
    has_unmarked p m t first marks
    (ok_at _ (λ (v : FreeBlocks). v.first ≡ first) p is c.from_used.ensures.first)
    (ok_at _ (λ (v : FreeBlocks). v.end ≡ first + length marks) p is c.from_used.ensures.end)
    (ok_at _ (λ (v : FreeBlocks). v.free ≡ unmarked_blocks first marks) p is c.from_used.ensures.free)
    shows)

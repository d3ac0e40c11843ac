use Rattle.std.proofs.Common.{◌+◌, arith, ap, length}
use Rattle.block_alloc.specs.Runs.{blocks_of}
use Rattle.block_alloc.proofs.Blocks.{normal-rising, length-rising}
use Rattle.block_alloc.proofs.free_runs.FreeRuns.from_used.Goals as goal

pub count_of-free-requires : goal.count_of-free-requires
count_of-free-requires c =
    let end = c.args.first + length c.args.used.now in
    let rising = normal-rising c.args.first end c.in_ok-runs.runs.items c.in_ok-runs.ensures.normal in
    omega (arith, length-rising c.args.first end (blocks_of c.in_ok-runs.runs.items) (omega arith) rising, c.requires, ap (λ l. length (blocks_of l)) c.deref.ensures.value)

pub returns-clause-ordered : goal.returns-clause-ordered
returns-clause-ordered c = normal-rising c.args.first (c.args.first + length c.args.used.now) c.in_ok-runs.runs.items c.in_ok-runs.ensures.normal

-- What a client knows once it has forgotten some of it, used a number, or opened or closed a file.
use Rattle.std.specs.Prelude.{ℕ, zero, suc, false, ◌==◌, ◌&&◌, not, List, Option, None, if◌then◌else◌}
use Rattle.block_cache.specs.CacheList.{Block, without_file}
use Rattle.posix_calls.specs.Tree.{set_own}
use Rattle.posix_calls.specs.declared.descriptor.Descriptor.{Descriptor}
use Rattle.client_plan.specs.file_graph.Graph.{is_among, touches}
use Rattle.client_plan.specs.file_graph.declared.effect.Effect.{Effect}
use Rattle.client_plan.specs.call_effects.Knowledge.{Knowledge}

-- no block of an inode
abbrev pub without_blocks : Knowledge → ℕ → Knowledge
without_blocks k i = record k { blocks = λ j b. if j == i then None else k.blocks j b }

-- no block of what effects touch
abbrev pub without_blocks_at : Knowledge → List Effect → Knowledge
without_blocks_at k es = record k { blocks = λ i b. if is_among i (touches es) then None else k.blocks i b }

-- no copy of an inode, and no block of it
abbrev pub without_inode : Knowledge → ℕ → Knowledge
without_inode k i = record k { copies = λ j. if j == i then None else k.copies j; blocks = λ j b. if j == i then None else k.blocks j b }

-- one number is granted no longer
abbrev pub without_granted : Knowledge → ℕ → Knowledge
without_granted k n = record k { granted = λ j. k.granted j && not (j == n) }

-- something is open at a number, or nothing any more
abbrev pub with_descriptor : Knowledge → ℕ → Option Descriptor → Knowledge
with_descriptor k number what = record k { own = set_own k.own number what }

-- nothing is open any more
abbrev pub all_closed : Knowledge → Knowledge
all_closed k = record k { own = λ n. None }

-- what a client knows that was told nothing: it has its number, and nothing is open
abbrev pub knows_nothing : ℕ → Knowledge
knows_nothing client = record { client = client; own = λ n. None; copies = λ i. None; blocks = λ i b. None; granted = λ i. false }

-- the blocks that are kept, but those of the inodes below a number
unfoldable pub without_files : ℕ → List Block → List Block
without_files zero bs = bs
without_files (suc n) bs = without_file n (without_files n bs)

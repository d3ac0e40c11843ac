-- The free blocks of a pool.
use Rattle.std.specs.Prelude.{◌≡◌, ◌<◌, ◌≤◌, ◌^◌, ◌-◌, length, vec_len, vec_capacity}
use Rattle.block_alloc.specs.declared.free_runs.FreeRuns.TheInside.{Inside}
use Rattle.block_alloc.specs.Runs.{blocks_of, AreNormalRuns}
use Rattle.block_alloc.specs.Value.{FreeBlocks}

-- what contracts see of a pool
abbrev pub free_blocks : Inside → FreeBlocks
free_blocks a = record { first = a.first; end = a.end; free = blocks_of a.runs.items; room = vec_capacity a.runs - vec_len a.runs }

-- the runs are in normal form within the range of the pool, and their blocks are counted
pub record AreFreeRuns (a : Inside) : Type 0 where
  pub normal : AreNormalRuns a.first a.end a.runs.items
  pub count : a.free ≡ length (blocks_of a.runs.items)
  pub range : a.first ≤ a.end
  pub fits : a.end < 2 ^ 32

-- What is taken from the pools.
use Rattle.std.specs.Prelude.{◌≡◌, ◌<◌, ◌≤◌, ◌+◌, ◌++◌, ℕ, List, [], length}
use Rattle.tier_device.specs.declared.media.Tier.{Tier}
use Rattle.tier_device.specs.declared.media.Tier.TheVariants as tiers
use Rattle.block_alloc.specs.declared.runs.Run.{Run}
use Rattle.block_alloc.specs.Runs.{blocks_of, AreNormalRuns, Rising}
use Rattle.block_alloc.specs.Value.{FreeBlocks, SamePool}
use Rattle.area_commit.specs.Value.{PoolsView, data_pool, on_tier, AreInOrder}
use Rattle.area_commit.specs.declared.allocation.Allocation.{Allocation}

-- the runs that were taken of a tier's data blocks
abbrev pub runs_of : Allocation → Tier → List Run
runs_of taken tiers.Fast = taken.fast.items
runs_of taken tiers.Block = taken.block.items
runs_of taken tiers.Slow = taken.slow.items

-- the blocks of runs of three tiers, fastest tier first
abbrev pub tier_places : List Run → List Run → List Run → List (Tier × ℕ)
tier_places fast block slow = on_tier tiers.Fast (blocks_of fast) ++ (on_tier tiers.Block (blocks_of block) ++ on_tier tiers.Slow (blocks_of slow))

-- the data blocks that were taken, fastest tier first
abbrev pub taken_data : Allocation → List (Tier × ℕ)
taken_data taken = tier_places taken.fast.items taken.block.items taken.slow.items

-- These runs stood at the front of a pool's free blocks; they can be given back without memory where there was room for one run.
pub record WasTaken (old new : FreeBlocks) (runs : List Run) : Type 0 where
  pub apart : AreNormalRuns old.first old.end runs
  pub front : blocks_of runs ++ new.free ≡ old.free
  pub room : 0 < old.room → length runs ≤ new.room
  pub kept : old.room ≤ new.room
  pub pool : SamePool old new

-- These runs stand before the pool's free blocks, and there is room for them.
pub record CanGive (p : FreeBlocks) (runs : List Run) : Type 0 where
  pub apart : AreNormalRuns p.first p.end runs
  pub before : Rising p.first p.end (blocks_of runs ++ p.free)
  pub room : length runs ≤ p.room

-- The runs stand at the front of the pool again.
pub record WasGiven (old new : FreeBlocks) (runs : List Run) : Type 0 where
  pub free : new.free ≡ blocks_of runs ++ old.free
  pub room : old.room ≤ new.room + length runs
  pub pool : SamePool old new

-- What was taken stood at the front of the pools.
pub record WereTaken (old new : PoolsView) (taken : Allocation) : Type 0 where
  pub nodes : WasTaken old.nodes new.nodes taken.nodes.items
  pub per_tier : (t : Tier) → WasTaken (data_pool old t) (data_pool new t) (runs_of taken t)

-- Once what was taken is given back, each pool has the room that it had, but for one run.
pub record LeavesRoom (old new : PoolsView) (taken : Allocation) : Type 0 where
  pub nodes : old.nodes.room + length taken.nodes.items ≤ new.nodes.room + 1
  pub per_tier : (t : Tier) → (data_pool old t).room + length (runs_of taken t) ≤ (data_pool new t).room + 1

-- What was taken can be given back without memory.
pub record CanRelease (p : PoolsView) (taken : Allocation) : Type 0 where
  pub nodes : CanGive p.nodes taken.nodes.items
  pub per_tier : (t : Tier) → CanGive (data_pool p t) (runs_of taken t)

-- More was taken of the same pools: all of it stood at their front, whatever they were before the first of it was taken, and all of it can be given back.
pub record TakesMore (old : PoolsView) (old_taken : Allocation) (new : PoolsView) (new_taken : Allocation) : Type 0 where
  pub took : (before : PoolsView) → AreInOrder before → WereTaken before old old_taken → WereTaken before new new_taken
  pub undo : CanRelease new new_taken

-- What was taken stands in the pools again.
pub record WasReleased (old new : PoolsView) (taken : Allocation) : Type 0 where
  pub nodes : WasGiven old.nodes new.nodes taken.nodes.items
  pub per_tier : (t : Tier) → WasGiven (data_pool old t) (data_pool new t) (runs_of taken t)

-- Nothing is taken.
pub record IsNone (taken : Allocation) : Type 0 where
  pub nodes : taken.nodes.items ≡ []
  pub fast : taken.fast.items ≡ []
  pub block : taken.block.items ≡ []
  pub slow : taken.slow.items ≡ []

-- the same free blocks of the same range
pub record SameBlocks (old new : FreeBlocks) : Type 0 where
  pub free : new.free ≡ old.free
  pub pool : SamePool old new

-- The pools have the same free blocks.
pub record SameFree (old new : PoolsView) : Type 0 where
  pub nodes : SameBlocks old.nodes new.nodes
  pub fast : SameBlocks old.fast new.fast
  pub block : SameBlocks old.block new.block
  pub slow : SameBlocks old.slow new.slow

-- No pool has less room.
pub record KeepsRoom (old new : PoolsView) : Type 0 where
  pub nodes : old.nodes.room ≤ new.nodes.room
  pub fast : old.fast.room ≤ new.fast.room
  pub block : old.block.room ≤ new.block.room
  pub slow : old.slow.room ≤ new.slow.room

-- Runs of blocks that are given back to a pool.
use Rattle.std.specs.Prelude.{◌↔◌, ◌⊎◌, ◌≤◌, ◌<◌, ℕ, List, [], ◌∷◌}
use Rattle.std.specs.List.{Contains}
use Rattle.block_alloc.specs.declared.runs.Run.{Run}
use Rattle.block_alloc.specs.Runs.{Apart, blocks_of}
use Rattle.block_alloc.specs.Value.{FreeBlocks, IsUsed, SamePool}

-- Each of the runs has a block or more of the pool's range, none of which is free or of another of the runs.
abbrev pub AreUsed : FreeBlocks → List Run → Type 0
AreUsed p [] = Unit {0}
AreUsed p (r ∷ rs) = IsUsed p r × Apart r (blocks_of rs) × AreUsed p rs

-- The block is one of the pool's range, and not free.
pub record IsInUse (p : FreeBlocks) (k : ℕ) : Type 0 where
  pub low : p.first ≤ k
  pub high : k < p.end
  pub used : Contains p.free k → ⊥

-- These blocks stand among the pool's free ones.
pub record WereAdded (old new : FreeBlocks) (blocks : List ℕ) : Type 0 where
  pub free : (k : ℕ) → Contains new.free k ↔ (Contains old.free k ⊎ Contains blocks k)
  pub pool : SamePool old new

-- The free blocks of a pool, as callers see them.
use Rattle.std.specs.Prelude.{◌≡◌, ◌<◌, ◌≤◌, ◌+◌, ℕ, List}
use Rattle.block_alloc.specs.declared.runs.Run.{Run}
use Rattle.block_alloc.specs.Runs.{Apart, Rising}

-- the range of the pool's blocks, those of them that are free, rising, and how many runs can be given without memory
pub record FreeBlocks : Type 0 where
  pub first : ℕ
  pub end : ℕ
  pub free : List ℕ
  pub room : ℕ

-- a run within the pool's range with a block or more, and none of its blocks is free
pub record IsUsed (v : FreeBlocks) (run : Run) : Type 0 where
  pub some : 0 < run.count
  pub after : v.first ≤ run.first
  pub before : run.first + run.count ≤ v.end
  pub apart : Apart run v.free

-- the free blocks rise strictly, within the range
abbrev pub InOrder : FreeBlocks → Type 0
InOrder v = Rising v.first v.end v.free

-- the same pool
pub record SamePool (old new : FreeBlocks) : Type 0 where
  pub first : new.first ≡ old.first
  pub end : new.end ≡ old.end

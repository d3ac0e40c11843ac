-- The extents of one inode in one tier, as callers see them.
use Rattle.std.specs.Prelude.{◌≡◌, ◌≢◌, ◌<◌, ◌≤◌, ◌+◌, ◌-◌, ◌++◌, ℕ, List, length, slice_index, slice_index_or, take, drop}
use Rattle.layout.specs.declared.extents.Extent.{Extent}
use Rattle.extent_tree.specs.Nodes.{begin_of, last_end}

-- the runs, how many entries each level of the tree has, the lowest level first, and the leaves, which have the runs one after the other
pub record ExtentMap : Type 0 where
  pub runs : List Extent
  pub levels : List ℕ
  pub leaves : List (List Extent)

-- a level is added only where a node of the old root's level could not hold that level's entries
abbrev pub GrownByNeed : ℕ → ExtentMap → ExtentMap → Type 0
GrownByNeed width old new = length old.levels < length new.levels → width < slice_index new.levels (length old.levels - 1)

-- a tree of one level stays one while a node can hold its runs
abbrev pub StaysOne : ℕ → ExtentMap → ExtentMap → Type 0
StaysOne width old new = length old.levels ≡ 1 → length new.runs ≤ width → length new.levels ≡ 1

-- a run of blocks touches a leaf, or borders on it
pub record Meets (first count : ℕ) (leaf : List Extent) : Type 0 where
  pub behind : first ≤ last_end 0 leaf
  pub before : begin_of leaf ≤ first + count

-- The leaves that a change rewrites stand side by side; the run meets each of them but one at most. All others stay as they are.
pub record OthersStay (first count : ℕ) (old new : List (List Extent)) : Type 0 where
  pub from : ℕ
  pub to : ℕ
  pub more : List (List Extent)
  pub order : from ≤ to
  pub within : to ≤ length old
  pub is : new ≡ take from old ++ (more ++ drop to old)
  pub beside : ℕ
  pub met : (k : ℕ) (d : List Extent) → from ≤ k → k < to → k ≢ beside → Meets first count (slice_index_or old k d)

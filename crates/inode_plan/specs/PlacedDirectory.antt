-- Where the blocks of a directory lie, as a list of runs.
use Rattle.std.specs.Prelude.{◌≡◌, ◌<◌, ◌≤◌, ℕ, List, length, Some, None}
use Rattle.area_commit.specs.layout.declared.extents.Extent.{Extent}
use Rattle.area_commit.specs.extent_tree.Normal.{IsNormal}
use Rattle.area_commit.specs.extent_tree.Places.{place_of}
use Rattle.inode_plan.specs.Blocks.{nth_block}

-- Runs in normal form: each logical block lies at its place, and no other one anywhere.
pub record ListPlaces (places : List ℕ) (runs : List Extent) : Type 0 where
  pub normal : IsNormal runs
  pub there : (k : ℕ) → k < length places → place_of runs k ≡ Some (nth_block places k)
  pub none : (k : ℕ) → length places ≤ k → place_of runs k ≡ None

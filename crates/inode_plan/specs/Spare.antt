-- The spare blocks that a changed directory wants.
use Rattle.std.specs.Prelude.{◌≡◌, ◌≢◌, ◌<◌, ◌≤◌, ℕ, List, length}
use Rattle.std.specs.List.{All}
use Rattle.posix_calls.specs.declared.limits.TheConstants.{MAX_NAMES}
use Rattle.area_commit.specs.layout.Places.{Sizes}
use Rattle.inode_plan.specs.Blocks.{nth_block, HaveOwnPlaces, AreNodeBlocks, AreSound, spares_wanted}
use Rattle.inode_plan.specs.declared.directory_change.ChangedDirectory.{ChangedDirectory}

-- how many blocks a changed directory wants beside those that it has
abbrev pub spares_for : ChangedDirectory → ℕ
spares_for x = spares_wanted x.blocks.root (length x.blocks.places.items) (length x.entries.blocks)

-- The spare blocks are as many as are wanted, all of the node pool, each another one, and none of those that the directory has.
pub record AreSpares (g : Sizes) (x : ChangedDirectory) (spares : List ℕ) : Type 0 where
  pub enough : length spares ≡ spares_for x
  pub nodes : AreNodeBlocks g spares
  pub apart : HaveOwnPlaces spares
  pub not_places : (j k : ℕ) → j < length spares → k < length x.blocks.places.items → nth_block spares j ≢ nth_block x.blocks.places.items k
  pub not_root : (j : ℕ) → j < length spares → nth_block spares j ≢ x.blocks.root

-- A changed directory can be written: its names keep the limit, the blocks that it had are sound, and those that are told as written are there.
pub record CanBeWritten (g : Sizes) (x : ChangedDirectory) : Type 0 where
  pub names_fit : x.names ≤ MAX_NAMES
  pub blocks_are : AreSound g x.blocks
  pub inside : All (λ k. k < length x.entries.blocks) x.written

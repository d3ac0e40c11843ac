-- A file of which a run may be moved, as it is read.
use Rattle.std.specs.Prelude.{◌≡◌, ◌≤◌, ◌+◌, ℕ, [], Some, true}
use Rattle.tier_device.specs.declared.media.Tier.{Tier}
use Rattle.inode_plan.specs.file_graph.declared.effect.Kind.TheVariants as kind
use Rattle.inode_plan.specs.layout.declared.slot.Slot.{Slot}
use Rattle.inode_plan.specs.layout.Places.{Sizes, is_inode}
use Rattle.inode_plan.specs.layout.Slot.{fits_slot}
use Rattle.inode_plan.specs.extent_tree.BlockFormat.{LiesWithin, IsOneToOne}
use Rattle.inode_plan.specs.extent_tree.Map.{runs_in, LieOnce, LieBelow}
use Rattle.inode_plan.specs.tree_blocks.Inode.{inode_of}
use Rattle.inode_plan.specs.area_reader.Store.{Store, slot_read, length_of, space_of}
use Rattle.inode_plan.specs.Lists.{LieAsIn}
use Rattle.relocation.specs.TierMove.{CanMove}
use Rattle.relocation.specs.declared.run_search.MovableRun.{MovableRun}

-- The slot is that of a file, and the run has a block or more, all among those that it takes.
pub record IsWithinFile (slot : Slot) (first count : ℕ) : Type 0 where
  pub kind_is : (inode_of slot (λ k. [])).kind ≡ Some kind.File
  pub some : 1 ≤ count
  pub within : first + count ≤ length_of slot

-- The run lies within the file at an inode.
pub record HasFileRun (g : Sizes) (s : Store) (i first count : ℕ) : Type 0 where
  pub file : Slot
  pub slot_is : slot_read g s i ≡ Some file
  pub within : IsWithinFile file first count

-- The run may be moved; these are the slot, and where the blocks lie: once, each in a place of its own, where a file's may.
pub record IsMovableRun (g : Sizes) (s : Store) (i first count : ℕ) (to : Tier) (x : MovableRun) : Type 0 where
  pub can : CanMove g s i first count to
  pub number : is_inode i ≡ true
  pub slot_is : slot_read g s i ≡ Some x.slot
  pub fits : fits_slot g x.slot ≡ true
  pub within_file : IsWithinFile x.slot first count
  pub places : LieAsIn g s i x.map
  pub first_is : x.run.first ≡ first
  pub count_is : x.run.count ≡ count
  pub once : LieOnce x.map
  pub below : LieBelow (length_of x.slot) x.map
  pub within : (t : Tier) → LiesWithin g (space_of x.slot t) (runs_in x.map t)
  pub apart : (t : Tier) → IsOneToOne (runs_in x.map t)

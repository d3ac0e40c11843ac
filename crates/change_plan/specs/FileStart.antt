-- A file in memory, before the change of it and while it is planned.
use Rattle.std.specs.Prelude.{◌≡◌, ◌⊎◌, ℕ, List, Some, IfSome, true}
use Rattle.std.specs.List.{AllByRecursion}
use Rattle.tier_device.specs.declared.media.Tier.{Tier}
use Rattle.inode_plan.specs.file_graph.declared.effect.Kind.TheVariants as kind
use Rattle.inode_plan.specs.graph_change.Change.{Change}
use Rattle.inode_plan.specs.graph_change.Bytes.{length_after}
use Rattle.inode_plan.specs.graph_change.Net.{Base, Kept, Made, names_after}
use Rattle.inode_plan.specs.layout.Places.{Sizes}
use Rattle.inode_plan.specs.layout.declared.slot.Slot.{Slot}
use Rattle.inode_plan.specs.layout.Slot.{fits_slot}
use Rattle.block_alloc.specs.declared.runs.Run.{Run}
use Rattle.block_alloc.specs.Runs.{blocks_of}
use Rattle.inode_plan.specs.extent_tree.Normal.{IsNormal}
use Rattle.inode_plan.specs.extent_tree.Map.{TierRuns, runs_in, HasBlock}
use Rattle.inode_plan.specs.extent_tree.declared.map.Place.{Place}
use Rattle.inode_plan.specs.tree_blocks.After.{start_node}
use Rattle.inode_plan.specs.tree_blocks.Inode.{LogicalBlocks, inode_of}
use Rattle.inode_plan.specs.area_reader.Store.{Store, slot, touch_of, logical_block, inode}
use Rattle.inode_plan.specs.area_reader.Checks.{HasFound}
use Rattle.inode_plan.specs.area_commit.InodeChange.{IsFileSlot}
use Rattle.inode_plan.specs.area_commit.Lists.{PutsLists}
use Rattle.inode_plan.specs.Lists.{AreListsOf, roots_left}
use Rattle.inode_plan.specs.area_commit.declared.plan.FreedBlocks.{FreedBlocks}
use Rattle.inode_plan.specs.area_commit.Plan.{LieApart, lost_in}
use Rattle.inode_plan.specs.Bytes.{blocks_from}
use Rattle.inode_plan.specs.MapChange.{IsMapAfter, AreLeft}
use Rattle.inode_plan.specs.PlannedFile.{left_in}
use Rattle.inode_plan.specs.Roots.{HasRootsOf, SparesFit}
use Rattle.change_plan.specs.PlanAddition.{GivesAll}
use Rattle.change_plan.specs.File.{slot_from, IsOldMap}
use Rattle.change_plan.specs.declared.file_start.StartedFile.{StartedFile}
use Rattle.change_plan.specs.declared.file_place.PlacedFile.{PlacedFile}

-- It is the file that a change of inode i starts from: its slot, where its blocks lie, and its extents, where it was there.
pub record IsStartedFile (g : Sizes) (s : Store) (base : Base) (i : ℕ) (f : StartedFile) : Type 0 where
  pub kind_is : (start_node base (inode g s i)).kind ≡ Some kind.File
  pub slot_is : f.slot ≡ slot_from base (slot g s i)
  pub map : IsOldMap g s base i f.map
  pub found : IfSome f.found (HasFound g s i)
  pub blocks : (start_node base (inode g s i)).blocks ≡ blocks_from f.found (logical_block g s i)

-- The blocks of the file that a change starts from have their places after it; of each tier it is known what lists them then, and what they leave.
pub record IsPlacedFile (g : Sizes) (s : Store) (c : Change) (i : ℕ) (numbers : List ℕ) (places : List Place) (f : PlacedFile) : Type 0 where
  pub kind_is : (start_node c.base (inode g s i)).kind ≡ Some kind.File
  pub slot_is : f.slot ≡ slot_from c.base (slot g s i)
  pub found : IfSome f.found (HasFound g s i)
  pub blocks : (start_node c.base (inode g s i)).blocks ≡ blocks_from f.found (logical_block g s i)
  pub before : TierRuns
  pub was : IsOldMap g s c.base i before
  pub map : IsMapAfter c numbers places before f.plan.map
  pub normal : (t : Tier) → IsNormal (runs_in f.plan.map t)
  pub lists : AreListsOf i f.plan.map f.plan.lists
  pub left : (t : Tier) → AreLeft c before t (blocks_of (left_in f.plan t))
  pub apart : (t : Tier) → LieApart (left_in f.plan t)

-- The file has a slot after the change of it, with these spare blocks to list extents; the images of those are put, and the blocks that list none any more are known.
pub record IsRootedFile (c : Change) (touch : ℕ) (f : PlacedFile) (spare : List ℕ) (old new : List (ℕ × List ℕ)) (x : Slot) (left : List Run) : Type 0 where
  pub slot_is : (blocks : LogicalBlocks) → IsFileSlot (names_after c.names (start_node c.base (inode_of f.slot blocks)).names) (length_after c.length (start_node c.base (inode_of f.slot blocks)).size) x
  pub touch_is : touch_of x ≡ touch
  pub roots : HasRootsOf f.plan.lists spare f.slot x
  pub limits : (g : Sizes) → fits_slot g f.slot ≡ true → SparesFit g f.slot spare → fits_slot g x ≡ true
  pub images : PutsLists x f.plan.lists old new
  pub left_is : blocks_of left ≡ roots_left f.slot x
  pub left_some : AllByRecursion HasBlock left

-- These are given up: the runs that the blocks of the file leave, and the blocks that list none of its extents any more.
pub record LosesOf (f : PlacedFile) (left : List Run) (lost : FreedBlocks) : Type 0 where
  pub nodes : lost.nodes.items ≡ left
  pub per_tier : (t : Tier) → lost_in lost t ≡ left_in f.plan t

-- So they are of a file that stays; where one is made, all that stood there.
abbrev pub LosesFile : Sizes → Store → Base → ℕ → PlacedFile → List Run → FreedBlocks → Type 0
LosesFile g s base i f left lost = ((base ≡ Kept) × LosesOf f left lost) ⊎ ((base ≡ Made kind.File) × GivesAll g s i lost)

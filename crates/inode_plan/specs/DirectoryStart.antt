-- A directory in memory, as a change starts from it and as it leaves it.
use Rattle.std.specs.Prelude.{◌≡◌, ◌≢◌, ◌<◌, ◌≤◌, true, ℕ, List, length, Option, Some, None}
use Rattle.tier_device.specs.declared.media.Tier.{Tier}
use Rattle.tier_device.specs.declared.media.Tier.TheVariants as tiers
use Rattle.posix_calls.specs.declared.limits.TheConstants.{MAX_NAMES}
use Rattle.area_commit.specs.file_graph.declared.effect.Kind.TheVariants as kind
use Rattle.area_commit.specs.graph_change.Net.{Base, Kept, Made, Gone, names_after}
use Rattle.area_commit.specs.graph_change.Change.{Change}
use Rattle.area_commit.specs.layout.Places.{Sizes, is_inode, is_node}
use Rattle.area_commit.specs.layout.Slot.{fits_slot}
use Rattle.area_commit.specs.tree_blocks.Inode.{LogicalBlocks}
use Rattle.area_commit.specs.tree_blocks.After.{start_node, IsDirectoryAfter}
use Rattle.area_commit.specs.tree_blocks.Directory.{numbered_blocks}
use Rattle.area_commit.specs.tree_blocks.InodeRewrite.{AreHeldOf}
use Rattle.area_commit.specs.tree_blocks.BlockMarks.{ListsWritten}
use Rattle.area_commit.specs.area_reader.Store.{Store, slot_read, inode}
use Rattle.area_commit.specs.area_reader.Format.{IsSpelled, used_block}
use Rattle.area_commit.specs.area_reader.Map.{HasAllExtents, place_by}
use Rattle.area_commit.specs.area_reader.declared.inode.InodeParts.{InodeParts}
use Rattle.area_commit.specs.area_reader.declared.tiers.InodeExtents.{InodeExtents}
use Rattle.inode_plan.specs.Blocks.{nth_block, AreSound, use_of}
use Rattle.inode_plan.specs.declared.directory_start.StartedDirectory.{StartedDirectory}
use Rattle.inode_plan.specs.declared.directory_change.ChangedDirectory.{ChangedDirectory}

-- ---- as it is read

-- These are the slot and the extents of inode i, a directory of a store that spells a graph.
pub record AreDirectoryParts (g : Sizes) (s : Store) (i : ℕ) (x : InodeParts) : Type 0 where
  pub spelled : IsSpelled g s
  pub number : is_inode i ≡ true
  pub slot_is : slot_read g s i ≡ Some x.slot
  pub fits : fits_slot g x.slot ≡ true
  pub kind_is : (inode g s i).kind ≡ Some kind.Directory
  pub extents : HasAllExtents g (s tiers.Fast) i x.slot x.extents

-- Each of the first so many logical blocks lies in the node pool, and in no tier but the fast one.
pub record LieInPool (g : Sizes) (x : InodeExtents) (count : ℕ) : Type 0 where
  pub there : (k : ℕ) → k < count → (p : ℕ) × (place_by x tiers.Fast k ≡ Some p) × (is_node g p ≡ true)
  pub others : (t : Tier) (k : ℕ) → t ≢ tiers.Fast → place_by x t k ≡ None

-- These are the places of the first so many logical blocks.
pub record ArePlacesOf (x : InodeExtents) (count : ℕ) (places : List ℕ) : Type 0 where
  pub long : length places ≡ count
  pub each : (k : ℕ) → k < count → place_by x tiers.Fast k ≡ Some (nth_block places k)

-- These are what stands in the first so many blocks at some places.
pub record HoldPlaces (fast : LogicalBlocks) (places : List ℕ) (count : ℕ) (held : List (List ℕ)) : Type 0 where
  pub long : length held ≡ count
  pub each : (k : ℕ) → k < count → numbered_blocks held k ≡ fast (nth_block places k)

-- ---- what a change starts from

-- what an inode has for a use, that the rest of a change starts from: what is made anew has nothing
abbrev pub use_from : Base → Option (Tier × ℕ) → Option (Tier × ℕ)
use_from Kept b = b
use_from (Made kind) b = None
use_from Gone b = None

-- In memory is the directory that a change of inode i starts from: its names and entries, the blocks that it has, and what stands in them.
pub record IsStarted (g : Sizes) (s : Store) (base : Base) (i : ℕ) (x : StartedDirectory) : Type 0 where
  pub kind_is : (start_node base (inode g s i)).kind ≡ Some kind.Directory
  pub names_is : x.names ≡ (start_node base (inode g s i)).names
  pub owner_is : x.entries.owner ≡ i
  pub entries_are : AreHeldOf x.entries (start_node base (inode g s i))
  pub uses : (t : Tier) (k : Option ℕ) → use_of x.blocks t k ≡ use_from base (used_block g s (record { inode = i; tier = t; logical = k }))
  pub held : HoldPlaces (s tiers.Fast) x.blocks.places.items (length x.blocks.places.items) x.entries.blocks
  pub list_is : x.blocks.root ≢ 0 → x.list ≡ s tiers.Fast x.blocks.root

-- Its names keep the limit, its blocks are sound, and there are as many as its entries want.
pub record IsSoundStart (g : Sizes) (x : StartedDirectory) : Type 0 where
  pub names_fit : x.names ≤ MAX_NAMES
  pub blocks_are : AreSound g x.blocks
  pub long : length x.blocks.places.items ≡ length x.entries.blocks

-- ---- what a change leaves

-- The names and the entries are as the change makes them, and it is told which of the blocks are written; where they lay is kept.
pub record IsChanged (c : Change) (x : StartedDirectory) (y : ChangedDirectory) : Type 0 where
  pub names_are : y.names ≡ names_after c.names x.names
  pub owner_is : y.entries.owner ≡ x.entries.owner
  pub entries_are : IsDirectoryAfter x.entries.owner c.entries x.entries.count (numbered_blocks x.entries.blocks) y.entries.count (numbered_blocks y.entries.blocks)
  pub written_are : ListsWritten x.entries.blocks y.entries.blocks y.written
  pub blocks_are : y.blocks ≡ x.blocks
  pub list_is : y.list ≡ x.list

-- One inode of a change: what it needs before it is planned, and what stands once it is.
use Rattle.std.specs.Prelude.{◌≡◌, ◌≤◌, ◌+◌, ◌⊎◌, ℕ, List, length, true, Option, Some, None}
use Rattle.std.specs.FinMap as fin
use Rattle.posix_calls.specs.declared.limits.TheConstants.{MAX_ENTRIES}
use Rattle.inode_plan.specs.file_graph.declared.effect.Kind.{Kind}
use Rattle.inode_plan.specs.file_graph.declared.effect.Kind.TheVariants as kind
use Rattle.inode_plan.specs.file_graph.Graph.{Node, FileBody, DirBody}
use Rattle.inode_plan.specs.graph_change.Bounds.{IsBounded}
use Rattle.inode_plan.specs.graph_change.Change.{Change, net_of}
use Rattle.inode_plan.specs.graph_change.Net.{node_after}
use Rattle.inode_plan.specs.graph_change.Tidy.{IsTidyChange}
use Rattle.inode_plan.specs.layout.declared.slot.Slot.{Slot}
use Rattle.inode_plan.specs.layout.Places.{Sizes, IsAllowed, is_inode}
use Rattle.inode_plan.specs.layout.Slot.{fits_slot}
use Rattle.inode_plan.specs.extent_tree.declared.map.Place.{Place}
use Rattle.inode_plan.specs.tree_blocks.After.{start_node}
use Rattle.inode_plan.specs.tree_blocks.Directory.{most_written}
use Rattle.inode_plan.specs.area_reader.Store.{Store, slot_read, inode, graph}
use Rattle.inode_plan.specs.area_reader.Format.{IsSpelled}
use Rattle.inode_plan.specs.area_commit.InodeChange.{places_from}
use Rattle.inode_plan.specs.area_commit.Value.{PoolsView}
use Rattle.inode_plan.specs.area_commit.declared.allocation.Allocation.{Allocation}
use Rattle.inode_plan.specs.PlacedFile.{PlacesFit}
use Rattle.inode_plan.specs.BlockWrites.{AreNumbers}
use Rattle.change_plan.specs.PlanAddition.{HasTaken, AddsPart}
use Rattle.change_plan.specs.Directory.{AreOfOthers}
use Rattle.change_plan.specs.File.{AreFreePlaces}
use Rattle.change_plan.specs.declared.partial_plan.PartialPlan.{PartialPlan}

-- how many blocks of the node pool, and how many images, the change of one inode takes at most: three that list the extents of a file; of a directory those that the names which change
-- may write, and one that lists its blocks
abbrev pub nodes_for : Change → ℕ
nodes_for c = 3 + most_written (fin.entries c.entries)

-- how many images it takes at most by what the change leaves there: none where that is nothing, three that list the extents of a file, and of a directory those that the names which
-- change may write, and one that lists its blocks
abbrev pub nodes_left : Option Kind → Change → ℕ
nodes_left None c = 0
nodes_left (Some kind.File) c = 3
nodes_left (Some kind.Directory) c = 1 + most_written (fin.entries c.entries)

-- What stands there is no directory with more entries than one may have.
abbrev pub HasFewEntries : Option Node → Type 0
HasFewEntries None = Unit {0}
HasFewEntries (Some n) = elim n.body [ FileBody bytes ↦ Unit {0} | DirBody entries ↦ fin.len entries ≤ MAX_ENTRIES ]

-- So many data blocks are wanted for inode i: one for each block that its change writes, where that leaves a file; none, where it leaves a directory or nothing.
abbrev pub WantsData : Sizes → Store → Change → ℕ → ℕ → Type 0
WantsData g s c i count = (((start_node c.base (inode g s i)).kind ≡ Some kind.File) × (numbers : List ℕ) × AreNumbers (places_from g s i c.base) c numbers × (length numbers ≡ count)) ⊎ (((start_node c.base (inode g s i)).kind ≡ Some kind.File → ⊥) × (count ≡ 0))

-- Inode i, which has this slot, is the next one to be planned: its change keeps to the limits; no image so far is for a block of it, or for a free one that was not taken; and blocks of the
-- node pool are free for it.
pub record IsNext (g : Sizes) (s : Store) (i : ℕ) (x : Slot) (c : Change) (left : PoolsView) (taken : Allocation) (images : List (ℕ × List ℕ)) : Type 0 where
  pub allowed : IsAllowed g
  pub spelled : IsSpelled g s
  pub number : is_inode i ≡ true
  pub slot_is : slot_read g s i ≡ Some x
  pub fits : fits_slot g x ≡ true
  pub tidy : IsTidyChange c
  pub bounded : IsBounded c
  pub entries : HasFewEntries (node_after (net_of c) (graph g s i))
  pub pools : HasTaken g s left taken
  pub others : AreOfOthers g s i taken images
  pub nodes : nodes_for c ≤ length left.nodes.free

-- These data blocks were free, and there are enough of them for inode i.
pub record HasPlaces (g : Sizes) (s : Store) (c : Change) (i : ℕ) (places : List Place) : Type 0 where
  pub free : AreFreePlaces g s places
  pub fit : PlacesFit places
  pub enough : (count : ℕ) → WantsData g s c i count → count ≤ length places

-- Inode i is planned, over the first so many of these places, which is as many as it wants, and over blocks that were taken of the node pool; no more of these than its change may take, and
-- no more images than what it leaves.
pub record PlansInode (g : Sizes) (s : Store) (c : Change) (touch i : ℕ) (places : List Place) (count : ℕ) (old_left : PoolsView) (old_taken : Allocation) (new_left : PoolsView) (new_taken : Allocation) (old new : PartialPlan) : Type 0 where
  pub part : AddsPart g s c touch i places count old_taken new_taken old new
  pub wants : WantsData g s c i count
  pub images : length new.nodes ≤ length old.nodes + nodes_left (start_node c.base (inode g s i)).kind c
  pub free : length old_left.nodes.free ≤ length new_left.nodes.free + nodes_for c

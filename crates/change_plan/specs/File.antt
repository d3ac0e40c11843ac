-- What a change makes of a file, in memory.
use Rattle.std.specs.Prelude.{◌≡◌, ◌⊎◌, ◌<◌, ◌+◌, ◌-◌, ◌/◌, ℕ, List, length, get_or, true, Some}
use Rattle.std.specs.List.{AllByRecursion}
use Rattle.tier_device.specs.declared.media.Tier.{Tier}
use Rattle.tier_device.specs.declared.media.Tier.TheVariants as tiers
use Rattle.inode_plan.specs.file_graph.declared.effect.Kind.TheVariants as kind
use Rattle.inode_plan.specs.graph_change.Bounds.{IsBounded}
use Rattle.inode_plan.specs.graph_change.Bytes.{length_after}
use Rattle.inode_plan.specs.graph_change.Change.{Change}
use Rattle.inode_plan.specs.graph_change.Net.{Base, Kept, Made, Gone, names_after}
use Rattle.inode_plan.specs.graph_change.Tidy.{IsTidyChange}
use Rattle.inode_plan.specs.layout.declared.places.TheConstants.{BLOCK}
use Rattle.inode_plan.specs.layout.declared.geometry.Space.TheVariants as space
use Rattle.inode_plan.specs.layout.declared.slot.Slot.{Slot}
use Rattle.inode_plan.specs.layout.declared.slot.Slot.TheVariants as slots
use Rattle.inode_plan.specs.layout.Places.{Sizes, node_end}
use Rattle.inode_plan.specs.layout.Slot.{fits_slot}
use Rattle.block_alloc.specs.Runs.{blocks_of}
use Rattle.inode_plan.specs.extent_tree.Normal.{IsNormal}
use Rattle.inode_plan.specs.extent_tree.BlockFormat.{LiesWithin, IsOneToOne}
use Rattle.inode_plan.specs.extent_tree.Map.{TierRuns, runs_in, lies_at, LieOnce, LieBelow, HasBlock}
use Rattle.inode_plan.specs.extent_tree.declared.map.Place.{Place}
use Rattle.inode_plan.specs.tree_blocks.After.{start_node}
use Rattle.inode_plan.specs.area_reader.Store.{Store, slot, touch_of, inode}
use Rattle.inode_plan.specs.area_reader.Reads.{Free}
use Rattle.inode_plan.specs.area_reader.declared.tiers.InodeExtents.{InodeExtents}
use Rattle.inode_plan.specs.area_commit.InodeChange.{IsFileSlot}
use Rattle.inode_plan.specs.area_commit.Lists.{PutsLists}
use Rattle.inode_plan.specs.Lists.{AreListsOf, roots_left}
use Rattle.inode_plan.specs.area_commit.declared.plan.FreedBlocks.{FreedBlocks}
use Rattle.inode_plan.specs.area_commit.Plan.{LieApart, lost_in}
use Rattle.inode_plan.specs.PlacedFile.{nth_place}
use Rattle.inode_plan.specs.BlockWrites.{AreNumbers}
use Rattle.inode_plan.specs.Bytes.{HoldsBlocks}
use Rattle.inode_plan.specs.MapChange.{IsMapAfter, AreLeft, AreData}
use Rattle.inode_plan.specs.PlannedFile.{StartsFrom, pairs_of}
use Rattle.inode_plan.specs.Roots.{roots_wanted, HasRootsOf, SparesFit}
use Rattle.change_plan.specs.Part.{Share}
use Rattle.change_plan.specs.PlanAddition.{GivesAll}

-- ---- what the change starts from

-- the slot that a change of a file starts from: its own, or a free one where the file is made
abbrev pub slot_from : Base → Slot → Slot
slot_from Kept x = x
slot_from (Made kind) x = slots.Free
slot_from Gone x = slots.Free

-- Inode i is a file after the base of the change, which keeps to the limits.
pub record ChangesFile (g : Sizes) (s : Store) (c : Change) (i : ℕ) : Type 0 where
  pub kind_is : (start_node c.base (inode g s i)).kind ≡ Some kind.File
  pub tidy : IsTidyChange c
  pub bounded : IsBounded c

-- Where the blocks lie in memory that the change starts from: none in two tiers or behind the end, each in a place of its own, where a file's may.
pub record IsOldMap (g : Sizes) (s : Store) (base : Base) (i : ℕ) (before : TierRuns) : Type 0 where
  pub starts : StartsFrom g s i base before
  pub once : LieOnce before
  pub below : LieBelow (((start_node base (inode g s i)).size + (BLOCK - 1)) / BLOCK) before
  pub within : (t : Tier) → LiesWithin g (space.Data t) (runs_in before t)
  pub apart : (t : Tier) → IsOneToOne (runs_in before t)

-- ---- what is taken for it

-- The places are data blocks that were free, and no two of them are one block.
pub record AreFreePlaces (g : Sizes) (s : Store) (places : List Place) : Type 0 where
  pub free : (n : ℕ) → n < length places → Free g s (nth_place places n).tier (nth_place places n).block
  pub are_data : AreData g places (length places)
  pub apart : (m n : ℕ) → m < length places → n < length places → (nth_place places m).tier ≡ (nth_place places n).tier → (nth_place places m).block ≡ (nth_place places n).block → m ≡ n

-- The blocks are of the node pool and were free, and no two of them are the same.
pub record AreFreeNodes (g : Sizes) (s : Store) (blocks : List ℕ) : Type 0 where
  pub free : (n : ℕ) → n < length blocks → Free g s tiers.Fast (get_or blocks n 0)
  pub node : (n : ℕ) → n < length blocks → get_or blocks n 0 < node_end g
  pub apart : (m n : ℕ) → m < length blocks → n < length blocks → get_or blocks m 0 ≡ get_or blocks n 0 → m ≡ n

-- ---- what is made

-- A file that stays gives up the places that its blocks leave, and the blocks that listed extents in tiers where it has none any more.
pub record GivesLeft (c : Change) (before : TierRuns) (old x : Slot) (lost : FreedBlocks) : Type 0 where
  pub nodes : blocks_of lost.nodes.items ≡ roots_left old x
  pub some : AllByRecursion HasBlock lost.nodes.items
  pub per_tier : (t : Tier) → AreLeft c before t (blocks_of (lost_in lost t))
  pub apart : (t : Tier) → LieApart (lost_in lost t)

-- What is given up: of a file that stays what it leaves; where one is made, all that stood there, whatever it was.
abbrev pub GivesUp : Sizes → Store → Change → ℕ → TierRuns → Slot → FreedBlocks → Type 0
GivesUp g s c i before x lost = ((c.base ≡ Kept) × GivesLeft c before (slot g s i) x lost) ⊎ ((c.base ≡ Made kind.File) × GivesAll g s i lost)

-- ---- the whole

-- The blocks that the change writes go to their places, with its bytes; all others stay where they lay or are cut off. The slot tells the file after the change, and names in each
-- tier that has extents then a block that has their image: the one that listed some before, or one that was taken for it.
pub record IsPlannedFile (g : Sizes) (s : Store) (c : Change) (touch : ℕ) (i : ℕ) (x : Slot) (m : TierRuns) (share : Share) (bytes : List ℕ) (old new : List (ℕ × List ℕ)) (lost : FreedBlocks) : Type 0 where
  pub changes : ChangesFile g s c i
  pub before : TierRuns
  pub was : IsOldMap g s c.base i before
  pub numbers : List ℕ
  pub numbers_are : AreNumbers (lies_at before) c numbers
  pub places : List Place
  pub many : length places ≡ length numbers
  pub places_are : AreFreePlaces g s places
  pub stored : share.«data» ≡ pairs_of places
  pub bytes_are : HoldsBlocks c (start_node c.base (inode g s i)).blocks numbers (length numbers) bytes
  pub map : IsMapAfter c numbers places before m
  pub normal : (t : Tier) → IsNormal (runs_in m t)
  pub lists : InodeExtents
  pub lists_are : AreListsOf i m lists
  pub nodes_are : AreFreeNodes g s share.nodes
  pub wanted : length share.nodes ≡ roots_wanted (slot_from c.base (slot g s i)) lists
  pub slot_is : IsFileSlot (names_after c.names (start_node c.base (inode g s i)).names) (length_after c.length (start_node c.base (inode g s i)).size) x
  pub touch_is : touch_of x ≡ touch
  pub roots : HasRootsOf lists share.nodes (slot_from c.base (slot g s i)) x
  pub limits : fits_slot g (slot_from c.base (slot g s i)) ≡ true → SparesFit g (slot_from c.base (slot g s i)) share.nodes → fits_slot g x ≡ true
  pub images : PutsLists x lists old new
  pub gives : GivesUp g s c i before x lost

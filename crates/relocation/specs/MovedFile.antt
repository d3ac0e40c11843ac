-- What a file is once a run of it is moved, in memory.
use Rattle.std.specs.Prelude.{◌≡◌, ◌≢◌, ◌≤◌, ◌*◌, ◌⊎◌, ◌==◌, if◌then◌else◌, ℕ, List, [], ◌∷◌, length, None, Some, IsSome, true}
use Rattle.std.specs.List.{AllByRecursion}
use Rattle.tier_device.specs.declared.media.Tier.{Tier}
use Rattle.inode_plan.specs.layout.declared.places.TheConstants.{BLOCK}
use Rattle.inode_plan.specs.layout.declared.slot.Slot.{Slot}
use Rattle.inode_plan.specs.layout.Extents.{ExtentList, extents_spelling}
use Rattle.inode_plan.specs.layout.Places.{Sizes}
use Rattle.inode_plan.specs.layout.Slot.{fits_slot}
use Rattle.block_alloc.specs.declared.runs.Run.{Run}
use Rattle.block_alloc.specs.Runs.{blocks_of}
use Rattle.inode_plan.specs.batch_journal.Images.{image_for}
use Rattle.inode_plan.specs.extent_tree.Normal.{IsNormal}
use Rattle.inode_plan.specs.extent_tree.Map.{TierRuns, runs_in, places_of, HasBlock}
use Rattle.inode_plan.specs.area_reader.Store.{Store, root_of, logical_block}
use Rattle.inode_plan.specs.area_reader.Map.{in_tier}
use Rattle.inode_plan.specs.area_reader.declared.tiers.InodeExtents.{InodeExtents}
use Rattle.inode_plan.specs.area_commit.InodeMove.{with_roots}
use Rattle.inode_plan.specs.area_commit.Lists.{HaveOwnRoots}
use Rattle.inode_plan.specs.area_commit.declared.slots.ChangedSlot.{ChangedSlot}
use Rattle.inode_plan.specs.area_commit.declared.allocation.Allocation.{Allocation}
use Rattle.inode_plan.specs.area_commit.Allocations.{runs_of, WereTaken, CanRelease}
use Rattle.inode_plan.specs.area_commit.Value.{PoolsView, data_pool, AreInOrder, HasRanges, AreFree}
use Rattle.relocation.specs.declared.run_search.MovableRun.{MovableRun}
use Rattle.relocation.specs.MovableFile.{IsMovableRun}
use Rattle.inode_plan.specs.Lists.{AreListsOf, HasRoots, SpareFits, HoldsRun, roots_left}
use Rattle.inode_plan.specs.RunPlaces.{ArePlaced}
use Rattle.inode_plan.specs.area_commit.declared.plan.FreedBlocks.{FreedBlocks}
use Rattle.inode_plan.specs.area_commit.declared.plan.Rewrite.{Rewrite}
use Rattle.inode_plan.specs.area_commit.Plan.{WereFree, lost_in}
use Rattle.relocation.specs.RunMove.{AreLowestFree}

-- ---- what is taken

-- the first block of some runs, 0 where there is none
abbrev pub first_of : List Run → ℕ
first_of [] = 0
first_of (r ∷ rs) = r.first

-- One block is taken to list extents where none does, else no block.
abbrev pub IsSpareFor : ℕ → List Run → Type 0
IsSpareFor root nodes = ((root ≢ 0) × (nodes ≡ [])) ⊎ ((root ≡ 0) × (blocks_of nodes ≡ first_of nodes ∷ []))

-- how many blocks are taken to list extents, by the block that does
abbrev pub spare_count : ℕ → ℕ
spare_count root = if root == 0 then 1 else 0

-- Free blocks were taken: the lowest of the tier, as many as the run has, none of another tier, and one to list extents where none does.
pub record IsTakenFor (g : Sizes) (s : Store) (f : MovableRun) (to : Tier) (taken : Allocation) : Type 0 where
  pub free : WereFree g s taken
  pub many : length (blocks_of (runs_of taken to)) ≡ f.run.count
  pub others : (t : Tier) → t ≢ to → blocks_of (runs_of taken t) ≡ []
  pub lowest : AreLowestFree g s to f.run.count (runs_of taken to)
  pub spare : IsSpareFor (root_of f.slot to) taken.nodes.items

-- ---- what is made

-- Each tier's extents have an image, for the block that the slot names, where no two of them name one block; and there is no other image.
pub record HasImages (x : Slot) (lists : InodeExtents) (images : List (ℕ × List ℕ)) : Type 0 where
  pub each : HaveOwnRoots x lists → (t : Tier) (v : ExtentList) → in_tier lists t ≡ Some v → image_for (root_of x t) images ≡ Some (extents_spelling v)
  pub only : (k : ℕ) → IsSome (image_for k images) → (t : Tier) × IsSome (in_tier lists t) × (root_of x t ≡ k)
  pub few : length images ≤ 3

-- The file has this slot and these runs, once its run lies in the blocks that were taken; its slot, the images of its extents, and the blocks that list none any more are made.
pub record IsMade (i : ℕ) (f : MovableRun) (to : Tier) (taken : Allocation) (slots : List ChangedSlot) (nodes : List (ℕ × List ℕ)) (left : List Run) (x : Slot) (m : TierRuns) : Type 0 where
  pub lists : InodeExtents
  pub placed : ArePlaced f.run.first to (blocks_of (runs_of taken to)) f.map m
  pub normal : (t : Tier) → IsNormal (runs_in m t)
  pub are_lists : AreListsOf i m lists
  pub roots : HasRoots lists (first_of taken.nodes.items) f.slot x
  pub slot_is : x ≡ with_roots (root_of x) f.slot
  pub limits : (g : Sizes) → fits_slot g f.slot ≡ true → SpareFits g f.slot lists (first_of taken.nodes.items) → fits_slot g x ≡ true
  pub slots_are : slots ≡ record { inode = i; slot = x } ∷ []
  pub images : HasImages x lists nodes
  pub left_is : blocks_of left ≡ roots_left f.slot x
  pub left_some : AllByRecursion HasBlock left
  pub left_few : length left ≤ 3

-- ---- the whole

-- A run of file i that may be moved is to go to a tier: into the blocks that were taken, with its bytes, and what it leaves is given up.
pub record IsMovePlan (g : Sizes) (s : Store) (i : ℕ) (to : Tier) (f : MovableRun) (x : Slot) (m : TierRuns) (plan : Rewrite) : Type 0 where
  pub file : IsMovableRun g s i f.run.first f.run.count to f
  pub took : IsTakenFor g s f to plan.taken
  pub made : IsMade i f to plan.taken plan.slots.items plan.nodes plan.lost.nodes.items x m
  pub places : (t : Tier) → blocks_of (lost_in plan.lost t) ≡ places_of (runs_in f.map t) f.run.first f.run.count
  pub some : (t : Tier) → AllByRecursion HasBlock (lost_in plan.lost t)
  pub holds : HoldsRun (logical_block g s i) f.run.first f.run.count plan.bytes.items
  pub size : length plan.bytes.items ≡ BLOCK * f.run.count
  pub marks : plan.marks ≡ None

-- ---- before the plan

-- A run of file i that may be moved, with its bytes, and its places, which it gives up.
pub record IsReadRun (g : Sizes) (s : Store) (i : ℕ) (to : Tier) (f : MovableRun) (bytes : List ℕ) (lost : FreedBlocks) : Type 0 where
  pub file : IsMovableRun g s i f.run.first f.run.count to f
  pub holds : HoldsRun (logical_block g s i) f.run.first f.run.count bytes
  pub size : length bytes ≡ BLOCK * f.run.count
  pub places : (t : Tier) → blocks_of (lost_in lost t) ≡ places_of (runs_in f.map t) f.run.first f.run.count
  pub some : (t : Tier) → AllByRecursion HasBlock (lost_in lost t)

-- And free blocks were taken for it.
pub record IsReadyMove (g : Sizes) (s : Store) (i : ℕ) (to : Tier) (f : MovableRun) (bytes : List ℕ) (lost : FreedBlocks) (taken : Allocation) : Type 0 where
  pub run : IsReadRun g s i to f bytes lost
  pub took : IsTakenFor g s f to taken

-- The plan is that of a move of this run.
pub record IsPlanOfMove (g : Sizes) (s : Store) (i first count : ℕ) (to : Tier) (plan : Rewrite) : Type 0 where
  pub file : MovableRun
  pub slot : Slot
  pub map : TierRuns
  pub is_plan : IsMovePlan g s i to file slot map plan
  pub first_is : file.run.first ≡ first
  pub count_is : file.run.count ≡ count

-- ---- the pools

-- There is room for what a move gives up: these runs, and three of the node pool.
pub record HasRoomFor (pools : PoolsView) (lost : FreedBlocks) : Type 0 where
  pub nodes : 3 ≤ pools.nodes.room
  pub per_tier : (t : Tier) → length (lost_in lost t) ≤ (data_pool pools t).room

-- The pools had exactly the free blocks of a store until these were taken, which can be given back; and there is room for what a move gives up.
pub record AreReadyToMove (g : Sizes) (s : Store) (left : PoolsView) (taken : Allocation) (lost : FreedBlocks) : Type 0 where
  pub before : PoolsView
  pub order : AreInOrder before
  pub ranges : HasRanges g before
  pub free : AreFree g s before
  pub took : WereTaken before left taken
  pub undo : CanRelease left taken
  pub room : HasRoomFor left lost

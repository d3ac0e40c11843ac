-- One inode more is planned, in memory.
use Rattle.std.specs.Prelude.{◌≡◌, ◌++◌, ◌∷◌, ℕ, List, [], take}
use Rattle.inode_plan.specs.graph_change.Change.{Change}
use Rattle.inode_plan.specs.layout.declared.slot.Slot.{Slot}
use Rattle.inode_plan.specs.layout.declared.slot.Slot.TheVariants as slots
use Rattle.inode_plan.specs.layout.Places.{Sizes}
use Rattle.block_alloc.specs.Runs.{blocks_of}
use Rattle.inode_plan.specs.extent_tree.Map.{TierRuns}
use Rattle.inode_plan.specs.extent_tree.declared.map.Place.{Place}
use Rattle.inode_plan.specs.area_reader.Store.{Store}
use Rattle.inode_plan.specs.area_commit.Value.{PoolsView, AreInOrder, HasRanges, AreFree}
use Rattle.inode_plan.specs.area_commit.declared.allocation.Allocation.{Allocation}
use Rattle.inode_plan.specs.area_commit.Allocations.{taken_data, WereTaken, CanRelease}
use Rattle.inode_plan.specs.PlannedFile.{pairs_of}
use Rattle.inode_plan.specs.area_commit.declared.plan.FreedBlocks.{FreedBlocks}
use Rattle.inode_plan.specs.area_commit.Plan.{HoldLost}
use Rattle.change_plan.specs.Part.{Share, IsPart, is_one}
use Rattle.change_plan.specs.Parts.{LoseBoth}
use Rattle.change_plan.specs.declared.partial_plan.PartialPlan.{PartialPlan}

-- ---- the pools meanwhile

-- Blocks were taken of pools that had exactly the free blocks of a store, and can be given back without memory.
pub record HasTaken (g : Sizes) (s : Store) (left : PoolsView) (taken : Allocation) : Type 0 where
  pub before : PoolsView
  pub order : AreInOrder before
  pub ranges : HasRanges g before
  pub free : AreFree g s before
  pub took : WereTaken before left taken
  pub undo : CanRelease left taken

-- More blocks were taken of the same node pool, or none; the data blocks that were taken are the same.
pub record TakesMoreNodes (old : PoolsView) (old_taken : Allocation) (new : PoolsView) (new_taken : Allocation) : Type 0 where
  pub same : taken_data new_taken ≡ taken_data old_taken
  pub took : (before : PoolsView) → AreInOrder before → WereTaken before old old_taken → WereTaken before new new_taken
  pub undo : CanRelease new new_taken

-- ---- what is given up

-- no block lies anywhere
abbrev pub no_runs : TierRuns
no_runs = record { fast = []; block = []; slow = [] }

-- All blocks that inode i has a use for are given up, and no others.
abbrev pub GivesAll : Sizes → Store → ℕ → FreedBlocks → Type 0
GivesAll g s i lost = HoldLost g (is_one i) s (λ _. slots.Free) (λ _. no_runs) lost

-- So they are, behind what was given up.
pub record AddsAll (g : Sizes) (s : Store) (i : ℕ) (old new : FreedBlocks) : Type 0 where
  pub lost : FreedBlocks
  pub all : GivesAll g s i lost
  pub both : LoseBoth old lost new

-- ---- what is planned

-- The part of inode i stands behind those that were planned: over the next so many of the places of data blocks, and over the blocks of the node pool that were taken for it.
pub record AddsPart (g : Sizes) (s : Store) (c : Change) (touch : ℕ) (i : ℕ) (places : List Place) (count : ℕ) (old_taken new_taken : Allocation) (old new : PartialPlan) : Type 0 where
  pub x : Slot
  pub m : TierRuns
  pub share : Share
  pub bytes : List ℕ
  pub lost : FreedBlocks
  pub part : IsPart g s c touch i x m share bytes old.nodes new.nodes lost
  pub nodes : blocks_of new_taken.nodes.items ≡ blocks_of old_taken.nodes.items ++ share.nodes
  pub data_are : share.«data» ≡ take count (pairs_of places)
  pub slots_are : new.slots.items ≡ old.slots.items ++ (record { inode = i; slot = x } ∷ [])
  pub bytes_are : new.bytes.items ≡ old.bytes.items ++ bytes
  pub lost_are : LoseBoth old.lost lost new.lost

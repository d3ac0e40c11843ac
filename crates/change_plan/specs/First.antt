-- The plans of the first inodes of a change, over what was taken so far.
use Rattle.std.specs.Prelude.{◌≡◌, ◌≤◌, ◌+◌, min, ℕ, List, [], true, length, map, take, drop, Option, IfSome}
use Rattle.std.specs.FinMap as fin
use Rattle.inode_plan.specs.graph_change.Change.{Changes}
use Rattle.inode_plan.specs.layout.declared.marks.Marks.{Marks}
use Rattle.inode_plan.specs.layout.declared.slot.Slot.{Slot}
use Rattle.inode_plan.specs.layout.Marks.{fits_marks}
use Rattle.inode_plan.specs.layout.Places.{Sizes}
use Rattle.block_alloc.specs.Runs.{blocks_of}
use Rattle.inode_plan.specs.extent_tree.Map.{TierRuns}
use Rattle.inode_plan.specs.extent_tree.declared.map.Place.{Place}
use Rattle.inode_plan.specs.area_reader.Store.{Store}
use Rattle.inode_plan.specs.area_commit.Value.{PoolsView}
use Rattle.inode_plan.specs.area_commit.declared.allocation.Allocation.{Allocation}
use Rattle.inode_plan.specs.area_commit.Allocations.{taken_data}
use Rattle.inode_plan.specs.PlannedFile.{pairs_of}
use Rattle.inode_plan.specs.area_commit.declared.plan.Rewrite.{Rewrite}
use Rattle.inode_plan.specs.area_commit.Plan.{is_changed}
use Rattle.change_plan.specs.Part.{Share}
use Rattle.change_plan.specs.Parts.{AreParts}
use Rattle.change_plan.specs.PlanAddition.{HasTaken}
use Rattle.change_plan.specs.BlockDemand.{images_left}
use Rattle.change_plan.specs.declared.partial_plan.PartialPlan.{PartialPlan}

-- Nothing is planned.
pub record PlansNothing (plan : PartialPlan) : Type 0 where
  pub slots : plan.slots.items ≡ []
  pub nodes : plan.nodes ≡ []
  pub bytes : plan.bytes.items ≡ []
  pub lost_nodes : plan.lost.nodes.items ≡ []
  pub lost_fast : plan.lost.fast.items ≡ []
  pub lost_block : plan.lost.block.items ≡ []
  pub lost_slow : plan.lost.slow.items ≡ []

-- all blocks of the node pool that were taken, and the first so many of the places of data blocks
abbrev pub first_share : Allocation → List Place → ℕ → Share
first_share taken places used = record { nodes = blocks_of taken.nodes.items; «data» = take used (pairs_of places) }

-- The inodes whose slots stand in the plan are planned, over that share.
pub record PlansFirst (g : Sizes) (s : Store) (cs : Changes) (touch : ℕ) (places : List Place) (used : ℕ) (taken : Allocation) (plan : PartialPlan) : Type 0 where
  pub x : ℕ → Slot
  pub m : ℕ → TierRuns
  pub parts : AreParts g s cs touch x m plan.slots.items (first_share taken places used) plan.bytes.items plan.nodes plan.lost

-- The places are the last of the data blocks that were taken.
abbrev pub AreLast : List Place → Allocation → Type 0
AreLast places taken = (used : ℕ) × (pairs_of places ≡ drop used (taken_data taken))

-- What was planned over what was taken, with new marks where they change, as one plan.
abbrev pub whole_of : PartialPlan → Allocation → Option Marks → Rewrite
whole_of plan taken marks = record { slots = plan.slots; marks = marks; nodes = plan.nodes; taken = taken; bytes = plan.bytes; lost = plan.lost }

-- All inodes of a change are planned over all blocks that were taken of the free ones of a store, with no more images than what it leaves takes; and one batch is enough for them.
pub record IsWhole (g : Sizes) (s : Store) (cs : Changes) (touch : ℕ) (plan : PartialPlan) (taken : Allocation) (marks : Option Marks) : Type 0 where
  pub inodes : (i : ℕ) → fin.contains_key cs i ≡ is_changed plan.slots.items i
  pub keys : map (λ c. c.inode) plan.slots.items ≡ fin.keys cs
  pub left : PoolsView
  pub took : HasTaken g s left taken
  pub places : List Place
  pub places_are : pairs_of places ≡ taken_data taken
  pub used : ℕ
  pub many : length places ≤ used
  pub first : PlansFirst g s cs touch places used taken plan
  pub images : min (length plan.slots.items) 32 + length plan.nodes ≤ images_left g s cs
  pub few : min (length plan.slots.items) 32 + length plan.nodes ≤ 255
  pub fits : IfSome marks (λ v. fits_marks v ≡ true)

-- Blocks of the node pool are taken, and then more of them.
use Rattle.std.proofs.Common.{◌≡◌, ◌∙◌, ℕ, List, refl, sym, subst}
use Rattle.inode_plan.specs.graph_change.Change.{Change}
use Rattle.inode_plan.specs.layout.Places.{Sizes}
use Rattle.inode_plan.specs.extent_tree.declared.map.Place.{Place}
use Rattle.inode_plan.specs.area_reader.Store.{Store}
use Rattle.inode_plan.specs.area_commit.Value.{PoolsView}
use Rattle.inode_plan.specs.area_commit.Allocations.{CanRelease}
use Rattle.inode_plan.specs.area_commit.declared.allocation.Allocation.{Allocation}
use Rattle.change_plan.specs.PlanAddition.{HasTaken, TakesMoreNodes, AddsPart}
use Rattle.change_plan.specs.declared.partial_plan.PartialPlan.{PartialPlan}

pub takes_none : (left : PoolsView) (taken : Allocation) → CanRelease left taken → TakesMoreNodes left taken left taken
takes_none left taken undo = record { same = refl; took = λ before order took. took; undo = undo }

-- and then no more
pub takes_still : (old new : PoolsView) (old_taken mid_taken new_taken : Allocation) → new_taken ≡ mid_taken → TakesMoreNodes old old_taken new mid_taken → TakesMoreNodes old old_taken new new_taken
takes_still old new old_taken mid_taken new_taken is takes = subst (λ (taken : Allocation). TakesMoreNodes old old_taken new taken) (sym is) takes

pub takes_on : (old mid new : PoolsView) (old_taken mid_taken new_taken : Allocation) → TakesMoreNodes old old_taken mid mid_taken → TakesMoreNodes mid mid_taken new new_taken → TakesMoreNodes old old_taken new new_taken
takes_on old mid new old_taken mid_taken new_taken one two = record {
  same = two.same ∙ one.same;
  took = λ before order took. two.took before order (one.took before order took);
  undo = two.undo;
}

-- what was taken of the free blocks of a store, is taken of them still
pub has_more : (g : Sizes) (s : Store) (old new : PoolsView) (old_taken new_taken : Allocation) → HasTaken g s old old_taken → TakesMoreNodes old old_taken new new_taken → HasTaken g s new new_taken
has_more g s old new old_taken new_taken has more = record {
  before = has.before;
  order = has.order;
  ranges = has.ranges;
  free = has.free;
  took = more.took has.before has.order has.took;
  undo = more.undo;
}

-- A part stands behind a plan, whatever was taken for that.
pub part_behind : (g : Sizes) (s : Store) (c : Change) (touch i : ℕ) (places : List Place) (count : ℕ) (old_taken new_taken taken : Allocation) (old new : PartialPlan)
    → AddsPart g s c touch i places count old_taken new_taken (record { taken = taken; slots = old.slots; nodes = old.nodes; bytes = old.bytes; lost = old.lost }) new → AddsPart g s c touch i places count old_taken new_taken old new
part_behind g s c touch i places count old_taken new_taken taken old new adds = record {
  x = adds.x;
  m = adds.m;
  share = adds.share;
  bytes = adds.bytes;
  lost = adds.lost;
  part = adds.part;
  nodes = adds.nodes;
  data_are = adds.data_are;
  slots_are = adds.slots_are;
  bytes_are = adds.bytes_are;
  lost_are = adds.lost_are;
}

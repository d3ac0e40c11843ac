use Rattle.std.proofs.Common.{ℕ, Option}
use Rattle.inode_plan.specs.graph_change.Change.{Changes}
use Rattle.inode_plan.specs.layout.declared.marks.Marks.{Marks}
use Rattle.inode_plan.specs.layout.declared.slot.Slot.{Slot}
use Rattle.inode_plan.specs.layout.Places.{Sizes}
use Rattle.inode_plan.specs.extent_tree.Map.{TierRuns}
use Rattle.inode_plan.specs.area_reader.Store.{Store}
use Rattle.inode_plan.specs.area_commit.declared.allocation.Allocation.{Allocation}
use Rattle.inode_plan.specs.area_commit.Plan.{IsPlanned}
use Rattle.change_plan.specs.Parts.{AreParts, share_of}
use Rattle.change_plan.specs.First.{IsWhole, whole_of}
use Rattle.change_plan.specs.declared.partial_plan.PartialPlan.{PartialPlan}
use Rattle.change_plan.proofs.prefix_laws.whole_change_can_be_carried_out.Goals as goal

pub returns : goal.returns
returns c =
    let all : (g : Sizes) (s : Store) (cs : Changes) (touch : ℕ) (plan : PartialPlan) (taken : Allocation) (marks : Option Marks) → IsWhole g s cs touch plan taken marks → (x : ℕ → Slot) × (m : ℕ → TierRuns) × AreParts g s cs touch x m plan.slots.items (share_of taken) plan.bytes.items plan.nodes plan.lost =
    λ g s cs touch plan taken marks is. c.added_part_stands_with_the_first.ensures.all g s cs touch is.used is.places taken plan is.many is.places_are is.first in
    let planned : (g : Sizes) (s : Store) (cs : Changes) (touch : ℕ) (plan : PartialPlan) (taken : Allocation) (marks : Option Marks) (x : ℕ → Slot) (m : ℕ → TierRuns) → IsWhole g s cs touch plan taken marks → AreParts g s cs touch x m plan.slots.items (share_of taken) plan.bytes.items plan.nodes plan.lost → IsPlanned g s x m (whole_of plan taken marks) =
    λ g s cs touch plan taken marks x m is parts. c.parts_are_planned.ensures g s cs touch x m (whole_of plan taken marks) parts (c.taken_blocks_were_free.ensures g s is.took.before is.left taken is.took.ranges is.took.free is.took.took) is.few is.fits in
    record {
      planned = λ g s cs touch plan taken marks is. (let r = all g s cs touch plan taken marks is in (r.0, r.1, planned g s cs touch plan taken marks r.0 r.1 is r.2));
      ready = λ g s left plan taken marks took nodes_room room. record { before = took.before; order = took.order; ranges = took.ranges; free = took.free; took = took.took; undo = took.undo; nodes_room = nodes_room; room = room };
      spelled = λ g s cs touch plan taken marks new allowed spelled tidy is done. (let r = all g s cs touch plan taken marks is in c.carried_out_change_is_the_graph_after.ensures.spelled g s cs touch r.0 r.1 (whole_of plan taken marks) new allowed spelled tidy r.2 (planned g s cs touch plan taken marks r.0 r.1 is r.2) done);
      graph = λ g s cs touch plan taken marks new allowed spelled tidy is done. (let r = all g s cs touch plan taken marks is in c.carried_out_change_is_the_graph_after.ensures.graph g s cs touch r.0 r.1 (whole_of plan taken marks) new allowed spelled tidy is.inodes r.2 (planned g s cs touch plan taken marks r.0 r.1 is r.2) done);
      touched = λ g s cs touch i plan taken marks new allowed spelled tidy is done its. (let r = all g s cs touch plan taken marks is in c.carried_out_change_is_the_graph_after.ensures.touched g s cs touch i r.0 r.1 (whole_of plan taken marks) new allowed spelled tidy r.2 (planned g s cs touch plan taken marks r.0 r.1 is r.2) done its);
    }

use Rattle.std.proofs.Common.{◌∙◌, ℕ, Option, sym}
use Rattle.inode_plan.specs.graph_change.Change.{Changes}
use Rattle.inode_plan.specs.layout.declared.marks.Marks.{Marks}
use Rattle.inode_plan.specs.layout.declared.slot.Slot.{Slot}
use Rattle.inode_plan.specs.layout.Places.{Sizes}
use Rattle.inode_plan.specs.extent_tree.Map.{TierRuns}
use Rattle.inode_plan.specs.area_reader.Store.{Store}
use Rattle.inode_plan.specs.area_commit.declared.allocation.Allocation.{Allocation}
use Rattle.inode_plan.specs.area_commit.Plan.{IsPlanned}
use Rattle.change_plan.specs.Parts.{AreParts, share_of}
use Rattle.change_plan.specs.First.{IsWhole, whole_of}
use Rattle.change_plan.specs.declared.partial_plan.PartialPlan.{PartialPlan}
use Rattle.change_plan.proofs.prefix_laws.whole_change_lies_in_its_places.Goals as goal

pub returns : goal.returns
returns c =
    let all : (g : Sizes) (s : Store) (cs : Changes) (touch : ℕ) (plan : PartialPlan) (taken : Allocation) (marks : Option Marks) → IsWhole g s cs touch plan taken marks → (x : ℕ → Slot) × (m : ℕ → TierRuns) × AreParts g s cs touch x m plan.slots.items (share_of taken) plan.bytes.items plan.nodes plan.lost =
    λ g s cs touch plan taken marks is. c.added_part_stands_with_the_first.ensures.all g s cs touch is.used is.places taken plan is.many is.places_are is.first in
    let planned : (g : Sizes) (s : Store) (cs : Changes) (touch : ℕ) (plan : PartialPlan) (taken : Allocation) (marks : Option Marks) (x : ℕ → Slot) (m : ℕ → TierRuns) → IsWhole g s cs touch plan taken marks → AreParts g s cs touch x m plan.slots.items (share_of taken) plan.bytes.items plan.nodes plan.lost → IsPlanned g s x m (whole_of plan taken marks) =
    λ g s cs touch plan taken marks x m is parts. c.parts_are_planned.ensures g s cs touch x m (whole_of plan taken marks) parts (c.taken_blocks_were_free.ensures g s is.took.before is.left taken is.took.ranges is.took.free is.took.took) is.few is.fits in
    record {
      got = λ g s cs touch plan taken marks is first. (let r = all g s cs touch plan taken marks is in c.carried_out_blocks_lie_in_their_places.ensures.got g s cs touch r.0 r.1 (whole_of plan taken marks) is.inodes r.2 first);
      written = λ g s cs touch plan taken marks new allowed spelled is done first. (let r = all g s cs touch plan taken marks is in c.carried_out_blocks_lie_in_their_places.ensures.written g s cs touch r.0 r.1 (whole_of plan taken marks) new allowed spelled is.inodes r.2 (planned g s cs touch plan taken marks r.0 r.1 is r.2) done first);
      kept = λ g s cs touch i plan taken marks new allowed spelled is done its file. (let r = all g s cs touch plan taken marks is in c.carried_out_blocks_lie_in_their_places.ensures.kept g s cs touch i r.0 r.1 (whole_of plan taken marks) new allowed spelled r.2 (planned g s cs touch plan taken marks r.0 r.1 is r.2) done (sym (is.inodes i) ∙ its) file);
      others = λ g s cs touch i plan taken marks new allowed spelled tidy is done none. (let r = all g s cs touch plan taken marks is in c.carried_out_blocks_lie_in_their_places.ensures.others g s cs touch i r.0 r.1 (whole_of plan taken marks) new allowed spelled tidy r.2 (planned g s cs touch plan taken marks r.0 r.1 is r.2) done (sym (is.inodes i) ∙ none));
    }

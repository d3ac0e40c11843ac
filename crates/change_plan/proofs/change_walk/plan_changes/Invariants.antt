use Rattle.std.proofs.Common.{ℕ, map, drop}
use Rattle.inode_plan.specs.graph_change.Change.{Change}
use Rattle.inode_plan.specs.graph_change.View.{change_of, changes_of}
use Rattle.inode_plan.specs.area_reader.Store.{disk}
use Rattle.inode_plan.specs.area_reader.Looks.{Looks, call_answer}
use Rattle.change_plan.specs.PlanAddition.{TakesMoreNodes}
use Rattle.change_plan.specs.ReadSlots.{HaveSlots}
use Rattle.change_plan.proofs.Climbs.{seen_as}
use Rattle.change_plan.proofs.Walked.{Walked}
use Rattle.change_plan.proofs.change_walk.plan_changes.Given as goal

abbrev pub invariant-nodes : goal.invariant-nodes
invariant-nodes g l =
    let m = g.M.Media in
    record {
      looks : Looks m l.fn.journal l.journal call_answer;
      took : TakesMoreNodes l.fn.pools l.fn.plan.taken l.pools l.plan.taken;
      walked : Walked l.fn.journal.geometry (disk m l.fn.journal) (changes_of l.read.change.now) l.touch l.places l.pools l.plan.taken l.plan l.used (seen_as change_of l.inode-iterator);
      slots : HaveSlots l.fn.journal.geometry (disk m l.fn.journal) (map (λ (e : ℕ × Change). e.0) (seen_as change_of l.inode-iterator)) (drop l.at l.read.slots.now);
    }

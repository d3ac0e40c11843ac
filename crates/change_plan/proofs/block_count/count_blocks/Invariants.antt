use Rattle.std.proofs.Common.{ℕ, map, drop}
use Rattle.inode_plan.specs.graph_change.Change.{Change}
use Rattle.inode_plan.specs.graph_change.View.{change_of, changes_of}
use Rattle.inode_plan.specs.area_reader.Store.{disk}
use Rattle.inode_plan.specs.area_reader.Looks.{Looks, call_answer}
use Rattle.change_plan.specs.ReadSlots.{HaveSlots}
use Rattle.change_plan.proofs.Climbs.{seen_as}
use Rattle.change_plan.proofs.Wants.{Counted}
use Rattle.change_plan.proofs.block_count.count_blocks.Given as goal

abbrev pub invariant-nodes : goal.invariant-nodes
invariant-nodes g l =
    let m = g.M.Media in
    record {
      looks : Looks m l.fn.journal l.journal call_answer;
      counted : Counted l.fn.journal.geometry (disk m l.fn.journal) (changes_of l.read.change.now) l.count (seen_as change_of l.inode-iterator);
      slots : HaveSlots l.fn.journal.geometry (disk m l.fn.journal) (map (λ (e : ℕ × Change). e.0) (seen_as change_of l.inode-iterator)) (drop l.at l.read.slots.now);
    }

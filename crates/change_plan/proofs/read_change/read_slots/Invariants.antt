use Rattle.inode_plan.specs.graph_change.View.{change_of, changes_of}
use Rattle.inode_plan.specs.area_reader.Store.{disk}
use Rattle.inode_plan.specs.area_reader.Looks.{Looks, call_answer}
use Rattle.change_plan.proofs.Climbs.{seen_as}
use Rattle.change_plan.proofs.Slotted.{AreRead}
use Rattle.change_plan.proofs.read_change.read_slots.Given as goal

abbrev pub invariant-inodes : goal.invariant-inodes
invariant-inodes g l =
    let m = g.M.Media in
    record {
      looks : Looks m l.fn.journal l.journal call_answer;
      read : AreRead l.fn.journal.geometry (disk m l.fn.journal) (changes_of l.change) l.slots.items (seen_as change_of l.inode-iterator);
    }

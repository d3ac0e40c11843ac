use Rattle.std.proofs.Common.{◌≡◌, true, length}
use Rattle.record_validation.specs.file_graph.Graph.{Graph}
use Rattle.graph_check.specs.Marks.{is_marked, AllClimb, unmarked_count}
use Rattle.graph_check.specs.Tables.{IsRead}
use Rattle.graph_check.proofs.reachability.mark_reached.Given as goal

abbrev pub invariant-loop : goal.invariant-loop
invariant-loop l = record {
  places : length l.marks ≡ 1025;
  root : is_marked l.marks 1 ≡ true;
  climb : (g : Graph) → IsRead g 1024 l.tables → AllClimb g l.marks;
}

abbrev pub decreases-loop : goal.decreases-loop
decreases-loop l = unmarked_count l.marks

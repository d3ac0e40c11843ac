use Rattle.std.proofs.Common.{◌≡◌, ℕ, ◌<◌, ◌≤◌, true, false, length}
use Rattle.record_validation.specs.file_graph.Graph.{Graph}
use Rattle.graph_check.specs.Marks.{is_marked, AllClimb, IsClosedAt, unmarked_count}
use Rattle.graph_check.specs.Tables.{IsRead}
use Rattle.graph_check.proofs.reachability.spread_marks.Given as goal

abbrev pub invariant-loop-inode : goal.invariant-loop-inode
invariant-loop-inode l = record {
  places : length l.marks ≡ 1025;
  root : is_marked l.fn.marks 1 ≡ true → is_marked l.marks 1 ≡ true;
  climb : (g : Graph) → IsRead g 1024 l.tables → AllClimb g l.fn.marks → AllClimb g l.marks;
  no_more : unmarked_count l.marks ≤ unmarked_count l.fn.marks;
  fewer : l.has_spread ≡ true → unmarked_count l.marks < unmarked_count l.fn.marks;
  closed : l.has_spread ≡ false → (g : Graph) → IsRead g 1024 l.tables → (i : ℕ) → 1 ≤ i → i < l.inode → IsClosedAt g l.marks i;
}

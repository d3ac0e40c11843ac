use Rattle.std.proofs.Common.{◌≡◌, ℕ, ◌<◌, ◌≤◌, true}
use Rattle.record_validation.specs.file_graph.Graph.{Graph}
use Rattle.graph_check.specs.Defects.{HasDirectory}
use Rattle.graph_check.specs.Marks.{is_marked}
use Rattle.graph_check.specs.Tables.{IsRead}
use Rattle.graph_check.proofs.reachability.test_reached.Given as goal

abbrev pub invariant-loop-inode : goal.invariant-loop-inode
invariant-loop-inode l = (g : Graph) → IsRead g 1024 l.tables → (i : ℕ) → 1 ≤ i → i < l.inode → HasDirectory g i → is_marked l.marks i ≡ true

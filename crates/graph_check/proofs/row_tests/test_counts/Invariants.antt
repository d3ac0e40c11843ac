use Rattle.std.proofs.Common.{ℕ, ◌<◌, ◌≤◌}
use Rattle.record_validation.specs.file_graph.Graph.{Graph}
use Rattle.graph_check.specs.Rows.{CountFitsAt}
use Rattle.graph_check.specs.Tables.{IsRead, row_of}
use Rattle.graph_check.proofs.row_tests.test_counts.Given as goal

abbrev pub invariant-loop-inode : goal.invariant-loop-inode
invariant-loop-inode l = (g : Graph) → IsRead g 1024 l.tables → (i : ℕ) → 1 ≤ i → i < l.inode → CountFitsAt i (row_of g i)

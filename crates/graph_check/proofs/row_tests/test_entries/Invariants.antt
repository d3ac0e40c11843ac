use Rattle.std.proofs.Common.{ℕ, ◌<◌}
use Rattle.record_validation.specs.file_graph.Graph.{Graph}
use Rattle.graph_check.specs.Rows.{EntriesFitAt}
use Rattle.graph_check.specs.Tables.{IsRead, row_of}
use Rattle.graph_check.proofs.row_tests.test_entries.Given as goal

abbrev pub invariant-loop-place : goal.invariant-loop-place
invariant-loop-place l = (g : Graph) → IsRead g 1024 l.tables → (i : ℕ) → i < l.place → EntriesFitAt (row_of g i)

use Rattle.std.proofs.Common.{◌≡◌, drop}
use Rattle.std.specs.FinMap as fin
use Rattle.std.specs.Ordering.{nat_cmp}
use Rattle.std.specs.Cmp.Lexicographic.{slice_cmp}
use Rattle.log_record.specs.file_graph.Plain.{pairs}
use Rattle.call_effects.proofs.node_reads.find.Given as goal

abbrev pub invariant-loop-entry : goal.invariant-loop-entry
invariant-loop-entry l = fin.find (slice_cmp nat_cmp) l.name (pairs (drop l.entry-index l.entries)) ≡ fin.find (slice_cmp nat_cmp) l.name (pairs l.entries)

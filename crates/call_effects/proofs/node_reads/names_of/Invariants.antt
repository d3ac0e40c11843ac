use Rattle.std.proofs.Common.{◌≡◌, map}
use Rattle.std.specs.Prelude.{take}
use Rattle.log_record.specs.file_graph.Plain.{pairs}
use Rattle.call_effects.proofs.node_reads.names_of.Given as goal

abbrev pub invariant-loop-entry : goal.invariant-loop-entry
invariant-loop-entry l = l.names.items ≡ map (λ e. e.0) (pairs (take l.entry-index l.entries))

use Rattle.std.proofs.Common.{◌≡◌, map}
use Rattle.std.specs.Prelude.{take}
use Rattle.file_graph.specs.NameOrder.{pairs}
use Rattle.file_graph.proofs.name_map.names_of_entries.Given as goal

abbrev pub invariant-loop-entry : goal.invariant-loop-entry
invariant-loop-entry g l = l.names.items ≡ map (λ e. e.0) (pairs (take l.entry-index l.entries))

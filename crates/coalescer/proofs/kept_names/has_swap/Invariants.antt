use Rattle.std.proofs.Common.{◌≡◌, false, take}
use Rattle.std.specs.List.{list_any}
use Rattle.graph_change.specs.file_graph.Plain.{is_swap}
use Rattle.coalescer.proofs.kept_names.has_swap.Given as goal

abbrev pub invariant-loop-effect : goal.invariant-loop-effect
invariant-loop-effect l = list_any is_swap (take l.effect-index l.effects) ≡ false

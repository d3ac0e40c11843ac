use Rattle.std.proofs.Common.{◌≡◌, take}
use Rattle.graph_change.specs.file_graph.Graph.{entered_places, graph_of, swap_places}
use Rattle.graph_change.specs.Change.{with_effects}
use Rattle.graph_change.specs.View.{changes_of}
use Rattle.coalescer.proofs.run_change.enter_swapped.Given as goal

abbrev pub invariant-loop-effect : goal.invariant-loop-effect
invariant-loop-effect l = changes_of l.change ≡ with_effects (changes_of l.fn.change) (entered_places (graph_of l.graph) (swap_places (take l.effect-index l.effects)))

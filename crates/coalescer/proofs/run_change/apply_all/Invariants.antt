use Rattle.std.proofs.Common.{◌≡◌, take}
use Rattle.graph_change.specs.file_graph.Graph.{after_effects, graph_of}
use Rattle.coalescer.proofs.run_change.apply_all.Given as goal

abbrev pub invariant-loop-effect : goal.invariant-loop-effect
invariant-loop-effect l = graph_of l.graph ≡ after_effects (graph_of l.fn.graph) (take l.effect-index l.effects)

use Rattle.std.proofs.Common.{◌≡◌, drop}
use Rattle.system_laws.specs.file_graph.Graph.{after_effects, graph_of}
use Rattle.interleavings.proofs.node_copies.put_effects.Given as goal

abbrev pub invariant-loop-effect : goal.invariant-loop-effect
invariant-loop-effect l = after_effects (graph_of l.graph) (drop l.effect-index l.effects) ≡ after_effects (graph_of l.fn.graph) l.effects

use Rattle.system_laws.specs.file_graph.Graph.{after_effects, graph_of}
use Rattle.interleavings.proofs.NodePuts.{effects_more}
use Rattle.interleavings.proofs.node_copies.put_effects.Goals as goal

pub loop-effect-preserved : goal.loop-effect-preserved
loop-effect-preserved c = effects_more c.args.effects.now c.loop-effect.effect-index c.effect-item.result c.loop-effect-test.true c.effect-item.is (graph_of c.loop-effect.graph) (graph_of c.apply.new.self) (after_effects (graph_of c.args.graph.now) c.args.effects.now) c.in_ok-apply.ensures.ok c.loop-effect.invariant

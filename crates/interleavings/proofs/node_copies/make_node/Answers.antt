use Rattle.std.proofs.Common.{ap, ◌∙◌}
use Rattle.system_laws.specs.file_graph.Graph.{Graph, after_effect, graph_of}
use Rattle.system_laws.specs.file_graph.declared.effect.Effect.TheVariants as effect
use Rattle.interleavings.proofs.NodePuts.{node_made, on_ok}
use Rattle.interleavings.proofs.node_copies.make_node.Goals as goal

pub returns : goal.returns
returns c = on_ok c.apply-2.result (λ named. named ∙ ap (λ (g : Graph). after_effect g (effect.Names c.args.inode c.args.names)) c.in_ok-apply.ensures.ok ∙ node_made (graph_of c.args.graph.now) c.args.inode c.args.names c.args.kind) c.apply-2.ensures.ok

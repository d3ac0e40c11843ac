use Rattle.std.proofs.Common.{refl, ◌∙◌}
use Rattle.system_laws.specs.file_graph.Graph.{graph_of}
use Rattle.system_laws.specs.file_graph.declared.effect.Effect.TheVariants as effect
use Rattle.interleavings.proofs.NodePuts.{acts_on_own}
use Rattle.interleavings.proofs.snapshot.drop_node.Goals as goal

pub returns-in-Ok-clause-put : goal.returns-in-Ok-clause-put
returns-in-Ok-clause-put c = c.in-Ok.ensures.ok ∙ acts_on_own (graph_of c.args.graph.now) c.args.inode (effect.Drop c.args.inode) refl

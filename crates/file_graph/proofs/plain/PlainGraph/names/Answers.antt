use Rattle.std.proofs.Common.{Some, None, ap, ◌∙◌}
use Rattle.std.specs.Prelude.{option_map}
use Rattle.file_graph.specs.Graph.{Node}
use Rattle.file_graph.proofs.Maps.{node_found}
use Rattle.file_graph.proofs.plain.PlainGraph.names.Goals as goal

pub returns-in-Some : goal.returns-in-Some
returns-in-Some c = ap Some c.names.ensures ∙ ap (option_map (λ (n : Node). n.names)) (node_found c.self.inside.nodes c.args.self.now c.args.inode (Some c.in-Some.node.now) c.self.view_is c.in-Some.ensures.value)

pub returns-in-None : goal.returns-in-None
returns-in-None c = ap (option_map (λ (n : Node). n.names)) (node_found c.self.inside.nodes c.args.self.now c.args.inode None c.self.view_is c.in-None.ensures.value)

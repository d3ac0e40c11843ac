use Rattle.std.proofs.Common.{Some, None, ap, ◌∙◌}
use Rattle.file_graph.specs.Graph.{file_bytes}
use Rattle.file_graph.proofs.Maps.{node_found}
use Rattle.file_graph.proofs.plain.PlainGraph.file.Goals as goal

pub returns-in-Some : goal.returns-in-Some
returns-in-Some c = c.file.ensures ∙ ap file_bytes (node_found c.self.inside.nodes c.args.self.now c.args.inode (Some c.in-Some.node.now) c.self.view_is c.in-Some.ensures.value)

pub returns-in-None : goal.returns-in-None
returns-in-None c = ap file_bytes (node_found c.self.inside.nodes c.args.self.now c.args.inode None c.self.view_is c.in-None.ensures.value)

use Rattle.std.proofs.Common.{Some, None, ap, ◌∙◌}
use Rattle.file_graph.specs.Graph.{directory_entries}
use Rattle.file_graph.proofs.Maps.{node_found}
use Rattle.file_graph.proofs.plain.PlainGraph.entries.Goals as goal

pub returns-in-Some : goal.returns-in-Some
returns-in-Some c = c.entries.ensures ∙ ap directory_entries (node_found c.self.inside.nodes c.args.self.now c.args.inode (Some c.in-Some.node.now) c.self.view_is c.in-Some.ensures.value)

pub returns-in-None : goal.returns-in-None
returns-in-None c = ap directory_entries (node_found c.self.inside.nodes c.args.self.now c.args.inode None c.self.view_is c.in-None.ensures.value)

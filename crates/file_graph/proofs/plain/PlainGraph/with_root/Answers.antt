use Rattle.std.proofs.Common.{◌∙◌}
use Rattle.file_graph.proofs.Maps.{graph_is}
use Rattle.file_graph.proofs.plain.PlainGraph.with_root.Goals as goal

pub returns : goal.returns
returns c = graph_is c.in_ok-nodes.nodes ∙ c.in_ok-nodes.ensures

use Rattle.std.proofs.Common.{ap, sym, ◌∙◌}
use Rattle.file_graph.specs.Graph.{Nodes, graph_of}
use Rattle.file_graph.specs.Units.{charge}
use Rattle.file_graph.proofs.Maps.{graph_is}
use Rattle.file_graph.proofs.plain.PlainGraph.charge.Goals as goal

pub returns : goal.returns
returns c = c.charge_of.ensures ∙ ap charge (sym (graph_is c.self.inside.nodes)) ∙ ap (λ (m : Nodes). charge (graph_of m)) c.self.view_is

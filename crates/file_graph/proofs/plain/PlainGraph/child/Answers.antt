use Rattle.std.proofs.Common.{◌∙◌, ap, sym}
use Rattle.file_graph.specs.Graph.{Graph, Nodes, graph_of, child_at}
use Rattle.file_graph.proofs.Maps.{graph_is}
use Rattle.file_graph.proofs.plain.PlainGraph.child.Goals as goal

pub returns : goal.returns
returns c =
    c.child_at.ensures
    ∙ ap (λ (g : Graph). child_at g c.args.directory c.args.name.now) (sym (graph_is c.self.inside.nodes))
    ∙ ap (λ (m : Nodes). child_at (graph_of m) c.args.directory c.args.name.now) c.self.view_is

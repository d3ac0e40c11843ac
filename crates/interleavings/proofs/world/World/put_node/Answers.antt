use Rattle.std.proofs.Common.{◌∙◌, ap}
use Rattle.system_laws.specs.file_graph.Graph.{Graph, graph_of, set_node}
use Rattle.interleavings.proofs.NodePuts.{on_ok}
use Rattle.interleavings.proofs.Snapshots.{same_shared}
use Rattle.interleavings.proofs.world.World.put_node.Goals as goal

pub returns-in-Some-clause-put : goal.returns-in-Some-clause-put
returns-in-Some-clause-put g c =
    on_ok c.put_found.result (λ is. is
    ∙ ap (λ (s : Graph). set_node (graph_of c.args.graph.now) c.args.inode (s c.args.inode)) (same_shared g.M.Media c.args.self.now c.node_at.new.self c.node_at.ensures.read)) c.put_found.ensures.put

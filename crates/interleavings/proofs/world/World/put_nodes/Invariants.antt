use Rattle.std.proofs.Common.{◌≡◌, ◌-◌, ◌≤◌}
use Rattle.system_laws.specs.file_graph.Graph.{graph_of}
use Rattle.interleavings.specs.Snapshots.{IsQuiet, IsRead, shared_graph, with_nodes}
use Rattle.interleavings.proofs.world.World.put_nodes.Given as goal

abbrev pub invariant-loop-inode : goal.invariant-loop-inode
invariant-loop-inode g l = record {
  low : 1 ≤ l.inode;
  put : graph_of l.graph ≡ with_nodes (graph_of l.fn.graph) (shared_graph g.M.Media l.fn.self) (l.inode - 1);
  read : IsRead g.M.Media l.fn.self l.self;
  quiet : IsQuiet g.M.Media l.fn.self l.self;
}

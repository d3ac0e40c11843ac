use Rattle.std.proofs.Common.{◌≡◌, ◌-◌, None}
use Rattle.graph_check.specs.Questions.{down_from}
use Rattle.graph_check.specs.Tables.{HasPlaces, IsRead}
use Rattle.graph_check.proofs.node_reader.read_nodes.Given as goal

abbrev pub invariant-loop-inode : goal.invariant-loop-inode
invariant-loop-inode g l = record {
  stays : g.N.Nodes.graph l.nodes ≡ g.N.Nodes.graph l.fn.nodes;
  places : HasPlaces l.tables;
  read : IsRead (g.N.Nodes.graph l.fn.nodes) (l.inode - 1) l.tables;
  asked : g.N.Nodes.asked l.fn.nodes l.nodes (down_from (l.inode - 1)) None;
}

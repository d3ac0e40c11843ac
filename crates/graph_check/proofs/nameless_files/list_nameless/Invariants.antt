use Rattle.record_validation.specs.file_graph.Graph.{Graph}
use Rattle.graph_check.specs.Tables.{IsRead}
use Rattle.graph_check.proofs.ListGrows.{AreBelow}
use Rattle.graph_check.proofs.nameless_files.list_nameless.Given as goal

abbrev pub invariant-loop-inode : goal.invariant-loop-inode
invariant-loop-inode l = (g : Graph) → IsRead g 1024 l.tables → AreBelow g l.inode l.inodes.items

use Rattle.world_invariant.specs.file_graph.Graph.{Graph}
use Rattle.world_invariant.specs.Logs.{after_records}
use Rattle.kernel_fs.specs.Inodes.{has}
use Rattle.kernel_fs.specs.Nodes.{AreNodes}
use Rattle.kernel_fs.proofs.Leading.{LeadsOn}
use Rattle.kernel_fs.proofs.inode_set.InodeSet.follow.Given as goal

abbrev pub invariant-records : goal.invariant-records
invariant-records l = (g : Graph) → AreNodes g (has l.fn.self) → LeadsOn after_records g l.records l.record-index (has l.self)

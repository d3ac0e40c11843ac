use Rattle.world_invariant.specs.file_graph.Graph.{Graph, after_effects}
use Rattle.kernel_fs.specs.Inodes.{has}
use Rattle.kernel_fs.specs.Nodes.{AreNodes}
use Rattle.kernel_fs.proofs.Leading.{LeadsOn}
use Rattle.kernel_fs.proofs.inode_set.InodeSet.follow_effects.Given as goal

abbrev pub invariant-effects : goal.invariant-effects
invariant-effects l = (g : Graph) → AreNodes g (has l.fn.self) → LeadsOn after_effects g l.effects l.effect-index (has l.self)

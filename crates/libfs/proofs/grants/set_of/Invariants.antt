use Rattle.std.proofs.Common.{◌≡◌, ℕ, take}
use Rattle.std.specs.Prelude.{◌&&◌}
use Rattle.lease_manager.specs.file_graph.Graph.{is_among}
use Rattle.lease_manager.specs.file_graph.Numbers.{is_inode}
use Rattle.kernel_fs.specs.Inodes.{has}
use Rattle.libfs.proofs.grants.set_of.Given as goal

abbrev pub invariant-loop-number : goal.invariant-loop-number
invariant-loop-number l = (i : ℕ) → has l.set i ≡ (is_inode i && is_among i (take l.number-index l.numbers))

use Rattle.std.proofs.Common.{◌≤◌}
use Rattle.strata_fuse.proofs.mount_tree.MountTree.count_free_nodes.Given as goal

-- no more were counted than were looked at
abbrev pub invariant-loop-number : goal.invariant-loop-number
invariant-loop-number l = l.count ≤ l.number

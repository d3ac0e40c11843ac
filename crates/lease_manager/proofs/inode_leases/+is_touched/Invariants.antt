use Rattle.std.proofs.Common.{length}
use Rattle.lease_manager.proofs.inode_leases.+is_touched.Given as goal

abbrev pub decreases-is_touched : goal.decreases-is_touched
decreases-is_touched l = length l.effects.now

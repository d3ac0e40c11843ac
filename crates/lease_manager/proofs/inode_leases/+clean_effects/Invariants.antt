use Rattle.std.proofs.Common.{length}
use Rattle.lease_manager.proofs.inode_leases.+clean_effects.Given as goal

abbrev pub decreases-clean_effects : goal.decreases-clean_effects
decreases-clean_effects l = length l.effects.now

use Rattle.std.proofs.Common.{length}
use Rattle.lease_manager.proofs.inode_leases.+note_effects.Given as goal

abbrev pub decreases-note_effects : goal.decreases-note_effects
decreases-note_effects l = length l.effects.now

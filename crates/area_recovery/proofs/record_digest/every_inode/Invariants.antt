use Rattle.std.proofs.Common.{◌≡◌}
use Rattle.area_recovery.proofs.EveryInode.{numbers_to}
use Rattle.area_recovery.proofs.record_digest.every_inode.Given as goal

abbrev pub invariant-loop-below : goal.invariant-loop-below
invariant-loop-below l = l.held.items ≡ numbers_to l.below

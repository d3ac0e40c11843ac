use Rattle.std.proofs.Common.{length}
use Rattle.client_plan.proofs.call_plan.+hold_all.Given as goal

abbrev pub decreases-hold_all : goal.decreases-hold_all
decreases-hold_all g l = length l.inodes.now

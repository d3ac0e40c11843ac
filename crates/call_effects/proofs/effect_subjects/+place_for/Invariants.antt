use Rattle.std.proofs.Common.{length}
use Rattle.call_effects.proofs.effect_subjects.+place_for.Given as goal

abbrev pub decreases-place_for : goal.decreases-place_for
decreases-place_for l = length l.inodes.now

use Rattle.std.proofs.Common.{◌≡◌, ◌<◌, ℕ}
use Rattle.std.specs.Prelude.{slice_get, Some}
use Rattle.log_survey.specs.update_log.View.{HasSize}
use Rattle.area_recovery.proofs.size_check.check_sizes.Given as goal

abbrev pub invariant-loop-place : goal.invariant-loop-place
invariant-loop-place g l = (k : ℕ) (m : _) → k < l.place → slice_get l.media k ≡ Some m → HasSize (g.M.Media.seen m)

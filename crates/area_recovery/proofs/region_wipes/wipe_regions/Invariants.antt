use Rattle.std.proofs.Common.{◌≡◌, ◌≤◌, ◌<◌, ◌/◌, ◌%◌, ℕ, length}
use Rattle.std.specs.Prelude.{slice_get, slice_index, Some}
use Rattle.log_survey.specs.update_log.View.{RegionView}
use Rattle.area_recovery.specs.Silent.{IsWiped, StaysSilent, wiped_name}
use Rattle.area_recovery.proofs.region_wipes.wipe_regions.Given as goal

abbrev pub invariant-loop-place : goal.invariant-loop-place
invariant-loop-place g l =
    let m = g.M.Media in
    record {
      long : length l.regions ≡ length l.fn.regions;
      each : (k : ℕ) (v w : RegionView _) → slice_get l.fn.regions k ≡ Some v → slice_get l.regions k ≡ Some w → StaysSilent m (slice_index l.generations (k / 2)) v w;
      wiped : (k : ℕ) (w : RegionView _) → k < l.place → slice_get l.regions k ≡ Some w → IsWiped m (wiped_name (slice_index l.generations (k / 2)) (k % 2)) w;
      rest : (k : ℕ) → l.place ≤ k → slice_get l.regions k ≡ slice_get l.fn.regions k;
    }

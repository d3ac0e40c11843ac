use Rattle.std.proofs.Common.{◌≡◌, ◌≤◌, ◌<◌, ◌+◌, ◌/◌, ℕ, length}
use Rattle.std.specs.Prelude.{slice_get, Some}
use Rattle.workload_cli.specs.Rests.{LeavesNoMore}
use Rattle.workload_cli.specs.Fills.{IsRestBy, fill_for}
use Rattle.workload_cli.proofs.media_rest.rest_regions.Given as goal

abbrev pub invariant-loop-place : goal.invariant-loop-place
invariant-loop-place g l =
    let m = g.M.Media in
    record {
      long : length l.regions ≡ length l.fn.regions;
      each : (k : ℕ) (v w : _) → slice_get l.fn.regions k ≡ Some v → slice_get l.regions k ≡ Some w → LeavesNoMore m v w;
      done : (k : ℕ) (w : _) → k < l.place → slice_get l.regions k ≡ Some w → (v : _) → slice_get l.fn.regions k ≡ Some v → IsRestBy m g.M.Resting.holds (fill_for l.fills (k / 2 + 1)) v w;
      counted : (k : ℕ) (w : _) → k < l.place → slice_get l.regions k ≡ Some w → g.M.Resting.counts l.trips (k / 2 + 1) w;
      rest : (k : ℕ) → l.place ≤ k → slice_get l.regions k ≡ slice_get l.fn.regions k;
    }

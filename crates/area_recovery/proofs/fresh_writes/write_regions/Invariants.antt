use Rattle.std.proofs.Common.{◌≡◌, ◌≤◌, ◌<◌, ◌%◌, ℕ, length}
use Rattle.std.specs.Prelude.{slice_get, Some}
use Rattle.recovery_laws.specs.Fresh.{fresh_region}
use Rattle.area_recovery.specs.FreshContents.{HoldsContent, IsLater}
use Rattle.area_recovery.specs.Recovers.{region_content}
use Rattle.area_recovery.proofs.fresh_writes.write_regions.Given as goal

abbrev pub invariant-loop-place : goal.invariant-loop-place
invariant-loop-place g l =
    let m = g.M.Media in
    record {
      long : length l.media ≡ length l.fn.media;
      each : (k : ℕ) (v w : _) → slice_get l.fn.media k ≡ Some v → slice_get l.media k ≡ Some w → IsLater m v w;
      fresh : (k : ℕ) (w : _) → k < l.place → slice_get l.media k ≡ Some w → HoldsContent m (region_content (fresh_region (k % 2))) w;
      rest : (k : ℕ) → l.place ≤ k → slice_get l.media k ≡ slice_get l.fn.media k;
    }

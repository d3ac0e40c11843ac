-- Media that come to rest, one by one.
use Rattle.std.proofs.Common.{◌≡◌, ℕ, zero, suc, ◌+◌, ◌/◌, ◌<◌, List, length, sym, ◌∙◌, subst, arith}
use Rattle.std.specs.Prelude.{Some, slice_get}
use Rattle.std.proofs.lemmas.Option.{same_Some, slice_get-get_or}
use Rattle.tier_device.specs.declared.fill.Fill.{Fill}
use Rattle.tier_device.specs.declared.media.Media.{Ghosts}
use Rattle.world_files.specs.area_recovery.Parts.{PartsView, part_medium}
use Rattle.world_files.specs.area_recovery.Regions.{REGIONS}
use Rattle.call_driver.specs.event_lists.Courses.{PARTS}
use Rattle.workload_cli.specs.Fills.{AreRestBy, IsRestBy, fill_for, name_of}
use Rattle.workload_cli.specs.Rests.{IsRestOf, LeaveNoMore, LeavesNoMore}

module _ {M : Type 0} (device : Ghosts M) where
  -- of a medium that rests a stop leaves what it holds alone, which it might have left before
  pub no_more_of_rest : (old new : M) → IsRestOf device old new → LeavesNoMore device old new
  no_more_of_rest old new is t c left = subst (λ d. device.left old (device.moment old) t d) (sym (is.rest t c left)) (is.allowed t)

module _ {M : Type 0} (R : ℕ → M → M → Type 0) (v w : PartsView M) (sixteen : length v.regions ≡ REGIONS) (long : length w.regions ≡ length v.regions) where
  -- what is so of the shared media, and of those of each region, is so of each part
  at_each_part : R 0 v.shared w.shared → ((k : ℕ) (m n : M) → slice_get v.regions k ≡ Some m → slice_get w.regions k ≡ Some n → R (suc k) m n) → (p : ℕ) → p < PARTS → R p (part_medium v p) (part_medium w p)
  at_each_part shared regions zero low = shared
  at_each_part shared regions (suc k) low = regions k _ _ (slice_get-get_or v.regions k v.shared (omega (arith, low, sixteen))) (slice_get-get_or w.regions k w.shared (omega (arith, low, sixteen, long)))

module _ {M : Type 0} (device : Ghosts M) (v w : PartsView M) (sixteen : length v.regions ≡ REGIONS) (long : length w.regions ≡ length v.regions) where
  pub each_rests : (holds : Fill → M → M → Type 0) (fills : List Fill) → IsRestBy device holds (fill_for fills 0) v.shared w.shared
      → ((k : ℕ) (m n : M) → slice_get v.regions k ≡ Some m → slice_get w.regions k ≡ Some n → IsRestBy device holds (fill_for fills (k / 2 + 1)) m n) → AreRestBy device holds fills (part_medium v) (part_medium w)
  each_rests holds fills shared regions = at_each_part (λ p m n. IsRestBy device holds (fill_for fills (name_of p)) m n) v w sixteen long shared regions

  pub each_leaves_no_more : LeavesNoMore device v.shared w.shared → ((k : ℕ) (m n : M) → slice_get v.regions k ≡ Some m → slice_get w.regions k ≡ Some n → LeavesNoMore device m n) → LeaveNoMore device (part_medium v) (part_medium w)
  each_leaves_no_more shared regions = at_each_part (λ p m n. LeavesNoMore device m n) v w sixteen long shared regions

-- what stands at one place is one item
pub same_item : {X : Type 0} (xs : List X) (k : ℕ) (v w : X) → slice_get xs k ≡ Some v → slice_get xs k ≡ Some w → v ≡ w
same_item xs k v w is_v is_w = same_Some v w (sym is_v ∙ is_w)

-- Parts of which the shared medium and the regions are opened.
use Rattle.std.proofs.Common.{◌≡◌, ◌≢◌, ◌⊎◌, inl, inr, ℕ, zero, suc, ◌+◌, ◌/◌, ◌%◌, ◌<◌, ◌≤◌, true, List, [], ◌∷◌, length, refl, ap, sym, ◌∙◌, subst, arith}
use Rattle.std.specs.Prelude.{slice_index_or}
use Rattle.std.specs.List.{AllByRecursion, AllZip}
use Rattle.tier_device.specs.declared.media.Media.{Ghosts}
use Rattle.tier_device.specs.declared.media.Tier.{Tier}
use Rattle.tier_device.specs.declared.media.Tier.TheVariants.{Fast}
use Rattle.tier_device.specs.AfterStop.{AtRest}
use Rattle.tier_device.specs.Media.{Rose}
use Rattle.log_survey.specs.update_log.View.{HasSize, RegionView}
use Rattle.recovery_laws.specs.Contents.{CanRecover, regions_in}
use Rattle.event_lists.specs.Courses.{PARTS, part_of}
use Rattle.recovery_laws.specs.layout.Places.{Sizes}
use Rattle.posix_calls.specs.Operations.{is_client}
use Rattle.area_recovery.specs.declared.error.RecoveryError.{RecoveryError}
use Rattle.area_recovery.specs.declared.error.RecoveryError.TheVariants.{DeviceFault, RegionSize}
use Rattle.area_recovery.specs.FaultOrMemory.{IsFaultOrMemory}
use Rattle.area_recovery.specs.Parts.{AreAtRest, contents_of, part_medium}
use Rattle.area_recovery.specs.Phases.{StaysRecovered, Whatever}
use Rattle.area_recovery.specs.Recovers.{AreThese}
use Rattle.area_recovery.specs.RecoveryStops.{AreGivenBack, StaysStored}
use Rattle.area_recovery.specs.Regions.{CanBeDenied, HaveRisen, IsGivenBack, IsReopened, IsUntouched, REGIONS, Rests, media_of}
use Rattle.area_recovery.specs.Settlement.{AreOpenRegions}
use Rattle.area_recovery.proofs.JoinedContents.{all_by_place}
use Rattle.area_recovery.proofs.ReadContents.{reopened_idle, reopened_sizes}
use Rattle.area_recovery.proofs.RecoveredParts.{stays_for, untouched_rests, untouched_same}
use Rattle.area_recovery.proofs.RisenFaults.{regions_rose, shared_rose}
use Rattle.area_recovery.proofs.SilentRegions.{bounds_client, client_bounds}
use Rattle.area_recovery.proofs.Staying.{SeenNow}
use Rattle.area_recovery.proofs.StoredStays.{KeepsLengths, unmoved_regions_store}

-- two rows of media, which are as long, of which those at the same place are related
abbrev pub AreRelated : {M : Type 0} → (M → M → Type 0) → List M → List M → Type 0
AreRelated R = AllZip R

related_at : {M : Type 0} (R : M → M → Type 0) (xs ys : List M) (k : ℕ) (d e : M) → AllZip R xs ys → k < length xs → R (slice_index_or xs k d) (slice_index_or ys k e)
related_at R [] ys k d e all low = absurd (omega (arith, low))
related_at R (x ∷ xs) [] k d e all low = absurd all
related_at R (x ∷ xs) (y ∷ ys) zero d e all low = all.0
related_at R (x ∷ xs) (y ∷ ys) (suc k) d e all low = related_at R xs ys k d e all.1 (omega (arith, low))

module _ {M : Type 0} (device : Ghosts M) where
  pub rests_each : (xs : List M) (d : M) → ((k : ℕ) → k < length xs → Rests device (slice_index_or xs k d)) → AllByRecursion (Rests device) xs
  rests_each xs d each = all_by_place (Rests device) xs d each

  pub all_same : (xs : List M) → AllZip (IsUntouched device) xs xs
  all_same [] = tt
  all_same (x ∷ xs) = (untouched_same device x, all_same xs)

  pub all_given : (xs ys : List M) → AllZip (IsGivenBack device) xs ys → AllZip (IsUntouched device) xs ys
  all_given [] [] all = tt
  all_given [] (y ∷ ys) all = absurd all
  all_given (x ∷ xs) [] all = absurd all
  all_given (x ∷ xs) (y ∷ ys) all = (all.0.untouched, all_given xs ys all.1)

  pub all_reopened : (xs : List M) (rs : List (RegionView M)) → AllZip (IsReopened device) xs rs → AllZip (IsUntouched device) xs (media_of rs)
  all_reopened [] [] all = tt
  all_reopened [] (r ∷ rs) all = absurd all
  all_reopened (x ∷ xs) [] all = absurd all
  all_reopened (x ∷ xs) (r ∷ rs) all = (all.0.back.untouched, all_reopened xs rs all.1)

  -- the shared medium was opened, and the regions' media were looked at
  module _ (seen_now : SeenNow device) (lengths : KeepsLengths device) (shared then : M) (media after : List M) (all : length media ≡ REGIONS) (stays : StaysRecovered device Whatever shared then) (same : AllZip (IsUntouched device) media after)
      (rest : AreAtRest device (part_medium (record { shared = shared; regions = media }))) where
    abbrev pub old : ℕ → M
    old = part_medium (record { shared = shared; regions = media })

    abbrev pub new : ℕ → M
    new = part_medium (record { shared = then; regions = after })

    pub region_same : (p : ℕ) → 0 < p → p < PARTS → IsUntouched device (old p) (new p)
    region_same zero some low = absurd (omega (arith, some))
    region_same (suc k) some low = related_at (IsUntouched device) media after k shared then same (omega (arith, low, all))

    pub opened_store : StaysStored device old new
    opened_store = unmoved_regions_store device seen_now lengths old new (λ p t some low. rest p t low)
        (stays_for device Whatever (AreThese (regions_in (contents_of device old))) shared then (λ rs so. tt) stays) (λ p some low. (region_same p some low).past) (λ p some low. (region_same p some low).clock)

    pub opened_back : (e : RecoveryError) → ((g : Sizes) → CanRecover g (contents_of device old) → IsFaultOrMemory e) → (e ≡ DeviceFault → Rose (device.faults shared) (device.faults then) ⊎ HaveRisen device media after)
        → (e ≢ DeviceFault → (t : Tier) → AtRest (device.seen then) (device.left then (device.moment then)) t) → AreGivenBack device old new e
    opened_back e never fault shared_rest = record {
      stop = opened_store;
      never = never;
      fault = λ is. elim (fault is) [ inl rose ↦ shared_rose device old new rose | inr risen ↦ regions_rose device shared media then after all risen ];
      rest = λ other p t low. place other p t low;
    }
      where
        place : e ≢ DeviceFault → (p : ℕ) (t : Tier) → p < PARTS → AtRest (device.seen (new p)) (device.left (new p) (device.moment (new p))) t
        place other zero t low = shared_rest other t
        place other (suc k) t low = untouched_rests device (old (suc k)) (new (suc k)) t (region_same (suc k) (omega arith) low) (rest (suc k) t low)

    pub faults_then : device.faults shared ≤ device.faults then → (p : ℕ) → p < PARTS → device.faults (old p) ≤ device.faults (new p)
    faults_then more zero low = more
    faults_then more (suc k) low = (region_same (suc k) (omega arith) low).faults

    pub regions_alike : AreThese (regions_in (contents_of device old)) (regions_in (contents_of device new))
    regions_alike d r is_d low =
        let bounds = client_bounds d is_d in
        let least = bounds.0 in
        let most = bounds.1 in
        (region_same (part_of d r) (omega (arith, least, low)) (omega (arith, least, most, low))).seen Fast

  -- no region's size is refused where it is recovered
  module _ (shared : M) (media : List M) (all : length media ≡ REGIONS) where
    sized_at : (g : Sizes) → CanRecover g (contents_of device (part_medium (record { shared = shared; regions = media }))) → (k : ℕ) → k < length media → HasSize (device.seen (slice_index_or media k shared))
    sized_at g can k low =
        let client : is_client (k / 2 + 1) ≡ true = bounds_client (k / 2 + 1) (omega arith) (omega (arith, low, all)) in
        let number : part_of (k / 2 + 1) (k % 2) ≡ suc k = omega arith in
        subst (λ (p : ℕ). HasSize (device.seen (part_medium (record { shared = shared; regions = media }) p))) number (can.sizes (k / 2 + 1) (k % 2) client (omega arith))

    pub denied_never : (e : RecoveryError) → CanBeDenied e → (e ≡ RegionSize → AllByRecursion (λ m. HasSize (device.seen m)) media → ⊥) → (g : Sizes) → CanRecover g (contents_of device (part_medium (record { shared = shared; regions = media }))) → IsFaultOrMemory e
    denied_never e (inl size) unsized g can = absurd (unsized size (all_by_place (λ m. HasSize (device.seen m)) media shared (sized_at g can)))
    denied_never e (inr (inl fault)) unsized g can = subst IsFaultOrMemory (sym fault) tt
    denied_never e (inr (inr memory)) unsized g can = subst IsFaultOrMemory (sym memory) tt

  -- regions that were reopened
  pub open_regions : (media : List M) (rs : List (RegionView M)) → length media ≡ REGIONS → AllZip (IsReopened device) media rs → AreOpenRegions device rs
  open_regions media rs all reopened = record { all = sym (zip_long media rs reopened) ∙ all; idle = reopened_idle device media rs reopened; sizes = reopened_sizes device media rs reopened }
    where
      zip_long : (xs : List M) (ys : List (RegionView M)) → AllZip (IsReopened device) xs ys → length xs ≡ length ys
      zip_long [] [] h = refl
      zip_long [] (y ∷ ys) h = absurd h
      zip_long (x ∷ xs) [] h = absurd h
      zip_long (x ∷ xs) (y ∷ ys) h = ap suc (zip_long xs ys h.1)

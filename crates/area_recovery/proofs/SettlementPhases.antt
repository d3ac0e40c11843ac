-- The phases that settle an area, put behind one another.
use Rattle.std.proofs.Common.{◌≡◌, ◌⊎◌, inl, inr, ℕ, ◌≤◌, true, List, refl, ap, sym, ◌∙◌, subst, arith}
use Rattle.std.specs.Prelude.{Some, Result, Ok, Err, IfErr, IfOk, IsErrAnd}
use Rattle.std.specs.List.{AllZip}
use Rattle.tier_device.specs.declared.media.Media.{Ghosts}
use Rattle.tier_device.specs.declared.media.Tier.{Tier}
use Rattle.tier_device.specs.AfterStop.{AtRest}
use Rattle.log_survey.specs.update_log.View.{RegionView}
use Rattle.recovery_laws.specs.batch_journal.View.{JournalView}
use Rattle.recovery_laws.specs.area_reader.Store.{marks, store_of}
use Rattle.recovery_laws.specs.layout.declared.marks.Marks.{Marks}
use Rattle.recovery_laws.specs.Contents.{log_in}
use Rattle.event_lists.specs.Courses.{Content}
use Rattle.log_survey.specs.world_invariant.Logs.{LogsAreApart, is_written}
use Rattle.posix_calls.specs.Operations.{is_client}
use Rattle.recovery_laws.specs.layout.Places.{Sizes}
use Rattle.posix_calls.specs.Tree.{State}
use Rattle.area_recovery.specs.declared.error.RecoveryError.{RecoveryError}
use Rattle.area_recovery.specs.declared.error.RecoveryError.TheVariants.{BadLog, DeviceFault, Memory}
use Rattle.area_recovery.specs.FaultOrMemory.{IsFaultOrMemory}
use Rattle.area_recovery.specs.FoundLogs.{log_by}
use Rattle.area_recovery.specs.Phases.{StaysRecovered, Whatever}
use Rattle.area_recovery.specs.Recovers.{AreThese, Recovers, Regions, joined}
use Rattle.area_recovery.specs.Regions.{HaveRisen, IsOnlyRead, media_of, regions_read}
use Rattle.area_recovery.specs.Settlement.{KeepsStored}
use Rattle.area_recovery.proofs.ReadContents.{log_joined}
use Rattle.area_recovery.proofs.RegionReads.{more_read, regions_still, risen_before}
use Rattle.area_recovery.proofs.SettledArea.{later_stays, stays_still}
use Rattle.area_recovery.proofs.Staying.{SeenNow, stays_on}

module _ {M : Type 0} (device : Ghosts M) where
  -- the regions are looked at, and the area rests
  pub kept_still : (area : JournalView M) (before after : List (RegionView M)) → ((t : Tier) → AtRest (device.seen area.media) (device.left area.media (device.moment area.media)) t) → AllZip (IsOnlyRead device) before after → KeepsStored device area area before after
  kept_still area before after rest same = record { any_moment = stays_still device (AreThese (regions_read device before)) area.media rest; same = same; geometry = refl; faults = omega arith }

  -- the logs are digested
  pub kept_digested : (area new : JournalView M) (before mid after : List (RegionView M)) → AllZip (IsOnlyRead device) before mid → AllZip (IsOnlyRead device) mid after
      → StaysRecovered device (AreThese (regions_read device mid)) area.media new.media → new.geometry ≡ area.geometry → device.faults area.media ≤ device.faults new.media → KeepsStored device area new before after
  kept_digested area new before mid after first next stays geometry faults = record {
    any_moment = subst (λ (rs : Regions). StaysRecovered device (AreThese rs) area.media new.media) (regions_still device before mid first) stays;
    same = more_read device before mid after first next;
    geometry = geometry;
    faults = faults;
  }

  module _ (seen_now : SeenNow device) (area mid new : JournalView M) (before after : List (RegionView M)) (kept : KeepsStored device area mid before after) (geometry : new.geometry ≡ mid.geometry) (faults : device.faults mid.media ≤ device.faults new.media) where
    abbrev these : Regions
    these = regions_read device before

    -- a phase behind that holds of all regions
    pub kept_tested : StaysRecovered device Whatever mid.media new.media → KeepsStored device area new before after
    kept_tested stays = record {
      any_moment = stays_on device seen_now (AreThese these) Whatever area.media mid.media new.media (λ rs so. tt) kept.any_moment stays;
      same = kept.same;
      geometry = geometry ∙ kept.geometry;
      faults = (let low = kept.faults in omega (arith, low, faults));
    }

    -- a phase behind that holds of some, as the regions are where what is stored is recovered
    pub kept_on : (Then : Regions → Type 0) → ((g : Sizes) (now : Regions) (state : State) → AreThese these now → Recovers g now state (device.seen area.media) → Then now) → StaysRecovered device Then mid.media new.media → KeepsStored device area new before after
    kept_on Then gives stays = record {
      any_moment = later_stays device seen_now these area.media Then mid.media new.media gives kept.any_moment stays;
      same = kept.same;
      geometry = geometry ∙ kept.geometry;
      faults = (let low = kept.faults in omega (arith, low, faults));
    }

-- ---- logs that are found

-- what is recovered has its clients' records apart
pub apart_found : {M : Type 0} (device : Ghosts M) (rs : List (RegionView M)) (g : Sizes) (state : State) (shared : Content) (now : Regions) (v : Marks) → marks (store_of shared) ≡ Some v → AreThese (regions_read device rs) now → Recovers g now state shared
    → LogsAreApart (log_by v (regions_read device rs))
apart_found device rs g state shared now v is these r c d i is_c is_d other w =
    let same : (e : ℕ) → is_client e ≡ true → log_in (joined shared now) e ≡ log_by v (regions_read device rs) e = log_joined device rs shared now v is these in
    sym (ap (is_written i) (same d is_d)) ∙ r.can.logs.apart c d i is_c is_d other (ap (is_written i) (same c is_c) ∙ w)

-- so their search is refused for a device or memory alone
pub found_never : (e : RecoveryError) (apart : Type 0) → (e ≡ DeviceFault) ⊎ (e ≡ Memory) ⊎ (client : ℕ) × (place : ℕ) × (e ≡ BadLog client place) → ((client place : ℕ) → e ≡ BadLog client place → apart → ⊥) → apart → IsFaultOrMemory e
found_never e apart (inl fault) bad is = subst IsFaultOrMemory (sym fault) tt
found_never e apart (inr (inl memory)) bad is = subst IsFaultOrMemory (sym memory) tt
found_never e apart (inr (inr log)) bad is = absurd (bad log.0 log.1 log.2 is)

-- a refusal that is passed on is the one that was answered
pub passed_on : {A E : Type 0} (r : Result A E) (P : E → Type 0) (e : E) → IsErrAnd r (λ y. y ≡ e) → P e → IfErr r P
passed_on (Ok a) P e is p = tt
passed_on (Err x) P e is p = subst P (sym is) p

-- also of regions that were only read since
pub these_since : {M : Type 0} (device : Ghosts M) (before after : List (RegionView M)) → AllZip (IsOnlyRead device) before after → (now : Regions) → AreThese (regions_read device before) now → AreThese (regions_read device after) now
these_since device before after same now these = subst (λ (rs : Regions). AreThese rs now) (sym (regions_still device before after same)) these

-- a device of the area or of a region failed, also of regions that were only read before
pub later_risen : {M : Type 0} (device : Ghosts M) (before mid after : List (RegionView M)) (A : Type 0) → AllZip (IsOnlyRead device) before mid → A ⊎ HaveRisen device (media_of mid) (media_of after) → A ⊎ HaveRisen device (media_of before) (media_of after)
later_risen device before mid after A same (inl area) = inl area
later_risen device before mid after A same (inr region) = inr (risen_before device before mid after same region)

-- facts on what is answered, together
pub all_ok : {A E : Type 0} {P Q R S U : A → Type 0} (r : Result A E) (T : A → Type 0) → ((a : A) → P a → Q a → R a → S a → U a → T a) → IfOk r P → IfOk r Q → IfOk r R → IfOk r S → IfOk r U → IfOk r T
all_ok (Ok a) T all p q u s v = all a p q u s v
all_ok (Err e) T all p q u s v = tt

pub all_err : {A E : Type 0} {P Q R : E → Type 0} (r : Result A E) (T : E → Type 0) → ((e : E) → P e → Q e → R e → T e) → IfErr r P → IfErr r Q → IfErr r R → IfErr r T
all_err (Ok a) T all p q u = tt
all_err (Err e) T all p q u = all e p q u

pub of_ok : {A E : Type 0} {P : A → Type 0} (r : Result A E) (T : A → Type 0) → ((a : A) → P a → T a) → IfOk r P → IfOk r T
of_ok (Ok a) T all p = all a p
of_ok (Err e) T all p = tt

pub of_err : {A E : Type 0} {P : E → Type 0} (r : Result A E) (T : E → Type 0) → ((e : E) → P e → T e) → IfErr r P → IfErr r T
of_err (Ok a) T all p = tt
of_err (Err e) T all p = all e p

-- Reads one after the other.
use Rattle.std.proofs.Common.{◌≡◌, ◌≢◌, ◌≤◌, ◌+◌, ◌⊎◌, inl, inr, ℕ, true, false, refl, sym, ◌∙◌, ap, subst, arith}
use Rattle.std.specs.Prelude.{Result, Ok, Err, IfErr}
use Rattle.std.proofs.lemmas.Bool.{true≢false}
use Rattle.tier_device.specs.declared.media.Media.{Ghosts}
use Rattle.tier_device.specs.Media.{Rose}
use Rattle.batch_journal.specs.View.{JournalView}
use Rattle.batch_journal.specs.Course.{Unmoved}
use Rattle.batch_journal.proofs.Courses.{unmoved_on, tiers_same}
use Rattle.area_reader.specs.declared.error.AreaError.{AreaError}
use Rattle.area_reader.specs.declared.error.AreaError.TheVariants as errors
use Rattle.batch_journal.specs.layout.Places.{Sizes}
use Rattle.area_reader.specs.Store.{Store, disk, store_of}
use Rattle.area_reader.specs.Looks.{Looks}

module _ {M : Type 0} (device : Ghosts M) where
  -- the store is the same
  pub store_same : {T : Type 0} (old new : JournalView M) (r : Result T AreaError) → Looks device old new r → disk device new ≡ disk device old
  store_same old new r looks = ap store_of (tiers_same (device.seen old.media) (device.seen new.media) looks.unmoved.reads)

  -- what holds of geometry and store still holds, and held before
  pub carried : {T : Type 0} (P : Sizes → Store → Type 0) (old new : JournalView M) (r : Result T AreaError) → Looks device old new r → P old.geometry (disk device old) → P new.geometry (disk device new)
  carried P old new r looks p = subst (λ (g : Sizes). P g (disk device new)) (sym looks.geometry) (subst (P old.geometry) (sym (store_same old new r looks)) p)

  pub carried_back : {T : Type 0} (P : Sizes → Store → Type 0) (old new : JournalView M) (r : Result T AreaError) → Looks device old new r → P new.geometry (disk device new) → P old.geometry (disk device old)
  carried_back P old new r looks p = subst (λ (g : Sizes). P g (disk device old)) looks.geometry (subst (P new.geometry) (store_same old new r looks) p)

  -- another answer, decided without the device
  pub looks_other : {T U : Type 0} (old new : JournalView M) (x : T) (r : Result U AreaError) → Looks device old new (Ok x) → IfErr r (λ e. e ≢ errors.DeviceFault) → Looks device old new r
  looks_other old new x (Ok y) looks other = record { unmoved = looks.unmoved; geometry = looks.geometry; more_faults = looks.more_faults; one_fault = looks.one_fault; quiet = looks.quiet; going = looks.going; quiet_refused = tt; stays_failed = λ was. absurd (true≢false (sym was ∙ looks.going.0)); fault = tt }
  looks_other old new x (Err e) looks other = record {
    unmoved = looks.unmoved;
    geometry = looks.geometry;
    more_faults = looks.more_faults;
    one_fault = looks.one_fault;
    quiet = tt;
    going = tt;
    quiet_refused = λ _. (looks.quiet, looks.going.0, looks.going.1);
    stays_failed = λ was. absurd (true≢false (sym was ∙ looks.going.0));
    fault = λ is. absurd (other is);
  }

  err_fault : {T : Type 0} (r : Result T AreaError) (e : AreaError) → r ≡ Err e → r ≡ Err errors.DeviceFault → e ≡ errors.DeviceFault
  err_fault r e is fault = cc

  -- the same refusal of another call
  pub looks_err : {T U : Type 0} (old new : JournalView M) (e : AreaError) → Looks {T = T} device old new (Err e) → Looks {T = U} device old new (Err e)
  looks_err {T = T} old new e looks = record {
    unmoved = looks.unmoved;
    geometry = looks.geometry;
    more_faults = looks.more_faults;
    one_fault = looks.one_fault;
    quiet = tt;
    going = tt;
    quiet_refused = looks.quiet_refused;
    stays_failed = λ was. let s = looks.stays_failed was in (ap Err (err_fault {T = T} (Err e) e refl s.0), s.1);
    fault = looks.fault;
  }

  -- another answer of a call that has answered
  pub looks_answer : {T U : Type 0} (old new : JournalView M) (x : T) (y : U) → Looks device old new (Ok x) → Looks device old new (Ok y)
  looks_answer old new x y looks = looks_other old new x (Ok y) looks tt

  -- one call behind another
  pub looks_on : {T U : Type 0} (old mid new : JournalView M) (x : T) (r : Result U AreaError) → Looks device old mid (Ok x) → Looks device mid new r → Looks device old new r
  looks_on old mid new x (Ok y) first second = record {
    unmoved = unmoved_on first.unmoved second.unmoved;
    geometry = second.geometry ∙ first.geometry;
    more_faults = omega (arith, first.more_faults, second.more_faults);
    one_fault = omega (arith, first.quiet, second.one_fault);
    quiet = second.quiet ∙ first.quiet;
    going = (first.going.0, second.going.1);
    quiet_refused = tt;
    stays_failed = λ was. absurd (true≢false (sym was ∙ first.going.0));
    fault = tt;
  }
  looks_on old mid new x (Err e) first second = record {
    unmoved = unmoved_on first.unmoved second.unmoved;
    geometry = second.geometry ∙ first.geometry;
    more_faults = omega (arith, first.more_faults, second.more_faults);
    one_fault = omega (arith, first.quiet, second.one_fault);
    quiet = tt;
    going = tt;
    quiet_refused = λ other. let q = second.quiet_refused other in (q.0 ∙ first.quiet, first.going.0, q.2);
    stays_failed = λ was. absurd (true≢false (sym was ∙ first.going.0));
    fault = λ is. let f = second.fault is in (f.0, elim (f.1) [ inl was ↦ absurd (true≢false (sym was ∙ first.going.1)) | inr rose ↦ inr (subst (λ (n : ℕ). Rose n (device.faults new.media)) first.quiet rose) ]);
  }

  -- a read that was made
  pub looks_ok : {T : Type 0} (old new : JournalView M) (x : T) → Unmoved (device.moment old.media) (device.moment new.media) (device.seen old.media) (device.seen new.media) (device.left old.media) (device.left new.media) → new.geometry ≡ old.geometry → device.faults new.media ≡ device.faults old.media → (old.failed ≡ false) × (new.failed ≡ false) → Looks device old new (Ok x)
  looks_ok old new x unmoved geometry quiet going = record {
    unmoved = unmoved;
    geometry = geometry;
    more_faults = omega (arith, quiet);
    one_fault = omega (arith, quiet);
    quiet = quiet;
    going = going;
    quiet_refused = tt;
    stays_failed = λ was. absurd (true≢false (sym was ∙ going.0));
    fault = tt;
  }

  -- one that a device failed in
  pub looks_fault : {T : Type 0} (old new : JournalView M) → Unmoved (device.moment old.media) (device.moment new.media) (device.seen old.media) (device.seen new.media) (device.left old.media) (device.left new.media) → new.geometry ≡ old.geometry → device.faults old.media ≤ device.faults new.media → device.faults new.media ≤ device.faults old.media + 1 → (new.failed ≡ true) × ((old.failed ≡ true) ⊎ Rose (device.faults old.media) (device.faults new.media)) → (old.failed ≡ true → new ≡ old) → Looks {T = T} device old new (Err errors.DeviceFault)
  looks_fault old new unmoved geometry more one cause stays = record {
    unmoved = unmoved;
    geometry = geometry;
    more_faults = more;
    one_fault = one;
    quiet = tt;
    going = tt;
    quiet_refused = λ other. absurd (other refl);
    stays_failed = λ was. (refl, stays was);
    fault = λ _. cause;
  }

  still_there : (old : JournalView M) → Unmoved (device.moment old.media) (device.moment old.media) (device.seen old.media) (device.seen old.media) (device.left old.media) (device.left old.media)
  still_there old = record { clock = refl; reads = λ t. refl; past = λ m t x le l. l; kept = λ m t x le l. l }

  -- no call at all, where no device has failed
  pub looks_none : {T : Type 0} (old : JournalView M) (x : T) → old.failed ≡ false → Looks device old old (Ok x)
  looks_none old x going = record {
    unmoved = still_there old;
    geometry = refl;
    more_faults = omega arith;
    one_fault = omega arith;
    quiet = refl;
    going = (going, going);
    quiet_refused = tt;
    stays_failed = λ was. absurd (true≢false (sym was ∙ going));
    fault = tt;
  }

  -- no call at all, where one has
  pub looks_failed : {T : Type 0} (old : JournalView M) → old.failed ≡ true → Looks {T = T} device old old (Err errors.DeviceFault)
  looks_failed old was = record {
    unmoved = still_there old;
    geometry = refl;
    more_faults = omega arith;
    one_fault = omega arith;
    quiet = tt;
    going = tt;
    quiet_refused = λ other. absurd (other refl);
    stays_failed = λ _. (refl, refl);
    fault = λ _. (was, inl was);
  }

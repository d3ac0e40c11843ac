-- What a digest answers, by what was answered to it.
use Rattle.std.proofs.Common.{◌≡◌, false, refl, sym, ap, ◌∙◌, arith}
use Rattle.std.specs.Prelude.{Result, Ok, Err}
use Rattle.std.proofs.lemmas.Bool.{true≢false}
use Rattle.tier_device.specs.declared.media.Media.{Ghosts}
use Rattle.migrator.specs.batch_journal.View.{JournalView}
use Rattle.digester.specs.DigestStep.{DigestsOrStays}
use Rattle.digester.specs.declared.error.DigestError.{DigestError}
use Rattle.digester.specs.declared.error.DigestError.TheVariants as errors

err_is : {T : Type 0} (e f : DigestError) → ◌≡◌ {A = Result T DigestError} (Err e) (Err f) → e ≡ f
err_is e f is = cc

module _ {M : Type 0} (device : Ghosts M) where
  -- another answer of a call that has answered
  pub another : {T U : Type 0} (old new : JournalView M) (x : T) (y : U) → DigestsOrStays device old new (Ok x) → DigestsOrStays device old new (Ok y)
  another old new x y d = record { unmoved = tt; geometry = d.geometry; more_faults = d.more_faults; one_fault = d.one_fault; quiet = d.quiet; going = d.going; quiet_refused = tt; stays_failed = λ was. absurd (true≢false (sym was ∙ d.going.0)); fault = λ is. absurd (cc is) }

  -- the same refusal of another call
  pub refused : {T U : Type 0} (old new : JournalView M) (e : DigestError) → DigestsOrStays {T = T} device old new (Err e) → DigestsOrStays {T = U} device old new (Err e)
  refused {T = T} {U = U} old new e d = record {
    unmoved = d.unmoved;
    geometry = d.geometry;
    more_faults = d.more_faults;
    one_fault = d.one_fault;
    quiet = tt;
    going = tt;
    quiet_refused = d.quiet_refused;
    stays_failed = λ was. (let s = d.stays_failed was in (ap Err (err_is {T = T} e errors.DeviceFault s.0), s.1));
    fault = λ is. d.fault (ap Err (err_is {T = U} e errors.DeviceFault is));
  }

  -- no call at all
  pub none : {U : Type 0} (area : JournalView M) (y : U) → area.failed ≡ false → DigestsOrStays device area area (Ok y)
  none area y going = record { unmoved = tt; geometry = refl; more_faults = omega arith; one_fault = omega arith; quiet = refl; going = (going, going); quiet_refused = tt; stays_failed = λ was. absurd (true≢false (sym was ∙ going)); fault = λ is. absurd (cc is) }

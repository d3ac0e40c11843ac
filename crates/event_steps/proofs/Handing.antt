-- A region that is handed over, and one that is wiped.
use Rattle.std.proofs.Common.{◌≡◌, ◌≢◌, ◌⊎◌, ◌<◌, inl, inr, true, false, List, [], ◌∷◌, length, Option, Some, None, refl, ap, sym, ◌∙◌, subst, arith}
use Rattle.std.specs.Prelude.{Result, Ok, Err, is_some}
use Rattle.std.proofs.lemmas.Bool.{false≢true}
use Rattle.tier_device.specs.declared.media.Media.{Ghosts}
use Rattle.libfs.specs.log_record.declared.format.Record.{Record}
use Rattle.libfs.specs.update_log.RecordCounts.{next_generation}
use Rattle.libfs.specs.update_log.declared.stage.WipeProgress.{WipeProgress}
use Rattle.libfs.specs.client_log.View.{LogView, current_records}
use Rattle.libfs.specs.lease_manager.Passes.{client_of}
use Rattle.libfs.specs.RegionSeal.{HasSealed}
use Rattle.libfs.specs.SealedRegion.{SealedRegionView, IsUntouched}
use Rattle.event_steps.specs.Sound.{IsAwayFrom}
use Rattle.libfs.specs.client_log.declared.error.LogError.{LogError}
use Rattle.libfs.specs.View.{ClientView}
use Rattle.event_steps.specs.Effects.{Carries}
use Rattle.event_steps.specs.Regions.{wipe_outcome}
use Rattle.event_steps.specs.Turns.{IsToBeWiped}
use Rattle.event_steps.specs.declared.outcome.Outcome.{Outcome}
use Rattle.event_steps.specs.declared.outcome.Outcome.TheVariants as outcomes
use Rattle.event_steps.specs.declared.outcome.Refusal.{Refusal}
use Rattle.event_steps.specs.declared.outcome.Refusal.TheVariants as refusals
use Rattle.event_steps.proofs.Carried.{done}

-- a list that is not empty
has_some : (rs : List Record) → rs ≢ [] → 0 < length rs
has_some [] some = absurd (some refl)
has_some (r ∷ rs) some = omega arith

-- the region that a client has just sealed is the one that it lacks
pub sealed_from : {M : Type 0} (device : Ghosts M) (old new : ClientView M) (a : SealedRegionView M) → a.client ≡ client_of old.pass → IsUntouched a → HasSealed device old a new → IsAwayFrom device new a
sealed_from device old new a number untouched has =
    let none = untouched.none in
    let some : 0 < length new.sealed = subst (λ (rs : List Record). 0 < length rs) (sym has.sealed_is) (has_some (current_records device old.log) has.may.some) in
    record {
      client = number ∙ sym (ap (λ (v : ClientView _). client_of v.pass) has.rest);
      gone = ap (λ (l : LogView _). l.other) has.log;
      before = ap next_generation has.generation ∙ sym (ap (λ (l : LogView _). l.generation) has.log);
      records = has.records ∙ sym has.sealed_is;
      some = omega (arith, none, some);
      none = λ _. none;
    }

going : (p : WipeProgress) (r : Result (Option WipeProgress) LogError) → r ≡ Ok (Some p) → r ≡ Ok None → ⊥
going p r one other = absurd (cc)

failed : (e : LogError) (r : Result (Option WipeProgress) LogError) → r ≡ Err e → r ≡ Ok None → ⊥
failed e r one other = absurd (cc)

pub stepped_is_done : outcomes.Stepped ≢ outcomes.Idle
stepped_is_done is = absurd (cc)

pub refused_is_done : (why : Refusal) → outcomes.Refused why ≢ outcomes.Idle
refused_is_done why is = absurd (cc)

-- a device call of a wipe
pub wiped : {Turn Made Same : Type 0} (answer : Result (Option WipeProgress) LogError) (o : Outcome) → o ≡ wipe_outcome answer → (answer ≡ Ok None → (Turn → ⊥) × Same) → (answer ≢ Ok None → Turn) → Made → Carries Turn Made Same o
wiped (Ok None) o told none some made = record { idle = λ _. none refl; turn = λ other. absurd (other told); made = λ t. absurd ((none refl).0 t) }
wiped (Ok (Some p)) o told none some made = done o (λ idle. stepped_is_done (sym told ∙ idle)) (some (going p (Ok (Some p)) refl)) made
wiped (Err e) o told none some made = done o (λ idle. refused_is_done refusals.DeviceFault (sym told ∙ idle)) (some (failed e (Err e) refl)) made

-- something is to be wiped where not all is wiped that is here
pub to_be_wiped : {M : Type 0} (v : ClientView M) → ((v.log.ready ≡ true) → ((v.log.clean ≡ true) ⊎ (v.log.other ≡ None)) → ⊥) → IsToBeWiped v
to_be_wiped v not_all = elim v.log.ready as (λ b. v.log.ready ≡ b → IsToBeWiped v) [
  | false ↦ λ is. inl is
  | true ↦ λ is. inr (elim v.log.clean as (λ b. v.log.clean ≡ b → (v.log.clean ≡ false) × (is_some v.log.other ≡ true)) [
    | true ↦ λ clean. absurd (not_all is (inl clean))
    | false ↦ λ stale. (
      stale,
      elim v.log.other as (λ o. v.log.other ≡ o → is_some o ≡ true) [
        | None ↦ λ none. absurd (not_all is (inr none))
        | Some r ↦ λ _. refl
      ] refl,
    )
  ] refl)
] refl

-- and not where all is
pub not_to_be_wiped : {M : Type 0} (v : ClientView M) → v.log.ready ≡ true → ((v.log.clean ≡ true) ⊎ (v.log.other ≡ None)) → IsToBeWiped v → ⊥
not_to_be_wiped v ready rest (inl stale) = false≢true (sym stale ∙ ready)
not_to_be_wiped v ready (inl clean) (inr is) = false≢true (sym is.0 ∙ clean)
not_to_be_wiped v ready (inr none) (inr is) = false≢true (sym (ap is_some none) ∙ is.1)

-- A device call of a wipe, and a hand-over, over a log as plain data.
use Rattle.std.proofs.Common.{◌≡◌, ◌≢◌, ◌⊎◌, inl, inr, ℕ, Bool, true, false, List, [], refl, sym, ◌∙◌, ap, subst}
use Rattle.std.specs.Prelude.{Option, Some, None, Result, Ok, Err, is_err, IfOk, IfErr, OnOk, OnErr, if◌then◌else◌}
use Rattle.std.proofs.lemmas.Bool.{cases_Bool}
use Rattle.tier_device.specs.declared.media.Media.{Ghosts}
use Rattle.tier_device.specs.declared.media.Tier.{Tier}
use Rattle.update_log.specs.log_record.declared.format.Record.{Record}
use Rattle.update_log.specs.View.{RegionView, records_of}
use Rattle.update_log.specs.declared.stage.WipeProgress.{WipeProgress}
use Rattle.update_log.specs.declared.stage.WipeProgress.TheVariants.{Going, Wiped}
use Rattle.client_log.specs.declared.error.LogError.{LogError}
use Rattle.client_log.specs.declared.error.LogError.TheVariants.{DeviceFault}
use Rattle.client_log.specs.Calls.{IsWipeCall}
use Rattle.client_log.specs.Steps.{WipesCurrent, WipesOther, is_last, wipe_answer}
use Rattle.client_log.specs.Turns.{Back, turn_of, place_of, is_wiped, sealed_turn, other_wiped}
use Rattle.client_log.specs.View.{LogView}

-- ---- the answer

abbrev pub Answer : Type 0
Answer = Result WipeProgress LogError

pub told_going : (a : Answer) (r : Result (Option WipeProgress) LogError) (Q : Type 0) → r ≡ wipe_answer a → (is_last a ≡ false → Q) → IfOk r (λ p. p ≢ Some Wiped → Q)
told_going a r Q is f = subst (λ (x : Result (Option WipeProgress) LogError). IfOk x (λ p. p ≢ Some Wiped → Q)) (sym is) (of a f)
  where
    of : (a : Answer) → (is_last a ≡ false → Q) → IfOk (wipe_answer a) (λ p. p ≢ Some Wiped → Q)
    of (Ok Going) f = λ more. f refl
    of (Ok Wiped) f = λ more. absurd (more refl)
    of (Err e) f = tt

pub told_last : (a : Answer) (r : Result (Option WipeProgress) LogError) (Q : Type 0) → r ≡ wipe_answer a → (is_last a ≡ true → Q) → IfOk r (λ p. p ≡ Some Wiped → Q)
told_last a r Q is f = subst (λ (x : Result (Option WipeProgress) LogError). IfOk x (λ p. p ≡ Some Wiped → Q)) (sym is) (of a f)
  where
    of : (a : Answer) → (is_last a ≡ true → Q) → IfOk (wipe_answer a) (λ p. p ≡ Some Wiped → Q)
    of (Ok Going) f = λ e. cc
    of (Ok Wiped) f = λ e. f refl
    of (Err e) f = tt

pub told_err : (a : Answer) (r : Result (Option WipeProgress) LogError) (Q : Type 0) → r ≡ wipe_answer a → (is_last a ≡ false → is_err a ≡ true → Q) → OnErr r Q
told_err a r Q is f = subst (λ (x : Result (Option WipeProgress) LogError). OnErr x Q) (sym is) (of a f)
  where
    of : (a : Answer) → (is_last a ≡ false → is_err a ≡ true → Q) → OnErr (wipe_answer a) Q
    of (Ok p) f = tt
    of (Err e) f = f refl refl

pub told_ok : (a : Answer) (r : Result (Option WipeProgress) LogError) (Q : Type 0) → r ≡ wipe_answer a → (is_err a ≡ false → Q) → OnOk r Q
told_ok a r Q is f = subst (λ (x : Result (Option WipeProgress) LogError). OnOk x Q) (sym is) (of a f)
  where
    of : (a : Answer) → (is_err a ≡ false → Q) → OnOk (wipe_answer a) Q
    of (Ok p) f = f refl
    of (Err e) f = tt

pub told_only : (a : Answer) (r : Result (Option WipeProgress) LogError) → r ≡ wipe_answer a → IfErr a (λ e. e ≡ DeviceFault) → IfErr r (λ e. e ≡ DeviceFault)
told_only a r is only = subst (λ (x : Result (Option WipeProgress) LogError). IfErr x (λ e. e ≡ DeviceFault)) (sym is) (of a only)
  where
    of : (a : Answer) → IfErr a (λ e. e ≡ DeviceFault) → IfErr (wipe_answer a) (λ e. e ≡ DeviceFault)
    of (Ok p) only = tt
    of (Err e) only = only

-- a device call is never answered as if there was none
pub never_none : (a : Answer) (r : Result (Option WipeProgress) LogError) → r ≡ wipe_answer a → r ≡ Ok None → ⊥
never_none a r is none = of a (sym is ∙ none)
  where
    of : (a : Answer) → wipe_answer a ≡ Ok None → ⊥
    of (Ok p) e = cc
    of (Err x) e = cc

pub if_ok : (r : Result (Option WipeProgress) LogError) (P : Option WipeProgress → Type 0) → ((p : Option WipeProgress) → P p) → IfOk r P
if_ok (Ok p) P each = each p
if_ok (Err e) P each = tt

-- where nothing was to be wiped
pub no_answer : (r : Result (Option WipeProgress) LogError) (P Q : Type 0) → r ≡ Ok None → P → IfOk r (λ p. p ≡ Some Wiped → Q) × IfOk r (λ p. p ≢ Some Wiped → P)
no_answer r P Q is here = subst (λ (x : Result (Option WipeProgress) LogError). IfOk x (λ p. p ≡ Some Wiped → Q) × IfOk x (λ p. p ≢ Some Wiped → P)) (sym is) ((λ e. cc), (λ e. here))

module _ {M : Type 0} (device : Ghosts M) where
  -- ---- of the region that is written

  pub current_same : (old new : LogView M) (result : Result (Option WipeProgress) LogError) → old.ready ≡ false → old.current.begun ≡ None → (w : WipesCurrent device old new result) → is_last w.answer ≡ false → turn_of device new ≡ turn_of device old
  current_same old new result ready nothing w going =
      let first : turn_of device (record old { current = new.current; ready = is_last w.answer; failed = is_err w.answer }) ≡ record { current = []; other = place_of old.other old.clean; ready = false; begun = None } =
      (λ i. record { current = (if going i then records_of device new.current else []); other = place_of old.other old.clean; ready = going i; begun = w.call.nothing i }) in
      let last : record { current = []; other = place_of old.other old.clean; ready = false; begun = None } ≡ turn_of device old =
      (λ i. record { current = (if sym ready i then records_of device old.current else []); other = place_of old.other old.clean; ready = sym ready i; begun = sym nothing i }) in
      ap (turn_of device) w.rest ∙ first ∙ last

  -- ---- of the other one

  pub the_one : (a b : RegionView M) → Some a ≡ Some b → a ≡ b
  the_one a b e = cc

  -- the same call
  pub to_call : (g g' : ℕ) (old old' new : RegionView M) (r r' : Answer) → IsWipeCall device g old new r → g ≡ g' → old ≡ old' → r ≡ r' → IsWipeCall device g' old' new r'
  to_call g g' old old' new r r' call number region answer =
      subst (λ (x : Answer). IsWipeCall device g' old' new x) answer
      (subst (λ (x : RegionView M). IsWipeCall device g' x new r) region
      (subst (λ (x : ℕ). IsWipeCall device x old new r) number call))

  pub other_same : (old new : LogView M) (r : RegionView M) (result : Result (Option WipeProgress) LogError) → old.other ≡ Some r → old.clean ≡ false → (w : WipesOther device r old new result) → is_last w.answer ≡ false → turn_of device new ≡ turn_of device old
  other_same old new r result there clean w going =
      let current : List Record = if old.ready then records_of device old.current else [] in
      let first : turn_of device (record old { other = Some w.beside; clean = is_last w.answer; failed = is_err w.answer }) ≡ record { current = current; other = place_of (Some r) false; ready = old.ready; begun = old.current.begun } =
      (λ i. record { current = current; other = place_of (Some w.beside) (going i); ready = old.ready; begun = old.current.begun }) in
      let last : record { current = current; other = place_of (Some r) false; ready = old.ready; begun = old.current.begun } ≡ turn_of device old =
      (λ i. record { current = current; other = place_of (sym there i) (sym clean i); ready = old.ready; begun = old.current.begun }) in
      ap (turn_of device) w.rest ∙ first ∙ last

  pub other_last : (old new : LogView M) (r : RegionView M) (result : Result (Option WipeProgress) LogError) → (w : WipesOther device r old new result) → is_last w.answer ≡ true → turn_of device new ≡ other_wiped (turn_of device old)
  other_last old new r result w ends =
      let current : List Record = if old.ready then records_of device old.current else [] in
      let first : turn_of device (record old { other = Some w.beside; clean = is_last w.answer; failed = is_err w.answer }) ≡ other_wiped (turn_of device old) =
      (λ i. record { current = current; other = place_of (Some w.beside) (ends i); ready = old.ready; begun = old.current.begun }) in
      ap (turn_of device) w.rest ∙ first

  -- the call was made, or there was nothing to be wiped
  abbrev pub Either : LogView M → LogView M → Result (Option WipeProgress) LogError → Type 0
  Either old new result = ((r : RegionView M) × (old.other ≡ Some r) × (old.clean ≡ false) × WipesOther device r old new result) ⊎ ((result ≡ Ok None) × (new ≡ old))

  cases_Option : {A : Type 0} (o : Option A) → (o ≡ None) ⊎ ((x : A) × (o ≡ Some x))
  cases_Option None = inl refl
  cases_Option (Some x) = inr (x, refl)

  pub either_way : (old new : LogView M) (result : Result (Option WipeProgress) LogError) → (old.clean ≡ false → (r : RegionView M) → old.other ≡ Some r → WipesOther device r old new result)
      → ((old.clean ≡ true) ⊎ (old.other ≡ None) → (result ≡ Ok None) × (new ≡ old)) → Either old new result
  either_way old new result other nothing = elim (cases_Bool old.clean) [
    | inl e ↦ inr (nothing (inl e))
    | inr e ↦ elim (cases_Option old.other) [
      | inl none ↦ inr (nothing (inr none))
      | inr some ↦ inl (some.0, some.1, e, other e some.0 some.1)
    ]
  ]

  -- there was nothing to be wiped, where no call was made
  pub none_where : (old new : LogView M) (result : Result (Option WipeProgress) LogError) → (old.clean ≡ false → (r : RegionView M) → old.other ≡ Some r → WipesOther device r old new result)
      → result ≡ Ok None → (old.clean ≡ true) ⊎ (old.other ≡ None)
  none_where old new result other none = elim (cases_Bool old.clean) [
    | inl e ↦ inl e
    | inr e ↦ elim (cases_Option old.other) [
      | inl gone ↦ inr gone
      | inr some ↦ let w = other e some.0 some.1 in absurd (never_none w.answer result w.is_told none)
    ]
  ]

  pub back_of : (old : LogView M) (r : RegionView M) → old.other ≡ Some r → old.clean ≡ false → (turn_of device old).other ≡ Back
  back_of old r there clean i = place_of (there i) (clean i)

  -- ---- a hand-over

  places : (r : RegionView M) (clean : Bool) → clean ≡ is_wiped (place_of (Some r) clean)
  places r true = refl
  places r false = refl

  emptied : (clean : Bool) (rs : List Record) → (clean ≡ true → rs ≡ []) → (if clean then rs else []) ≡ []
  emptied true rs none = none refl
  emptied false rs none = refl

  pub turn_sealed : (g : ℕ) (old : LogView M) (r new : RegionView M) (left_out : Option (RegionView M)) (failed : Bool) → old.other ≡ Some r → new ≡ r → left_out ≡ None → (old.clean ≡ true → records_of device r ≡ []) → r.begun ≡ None
      → turn_of device (record { generation = g; current = new; ready = old.clean; other = left_out; clean = false; failed = failed }) ≡ sealed_turn (turn_of device old)
  turn_sealed g old r new left_out failed there is gone empty nothing =
      let none_there = emptied old.clean (records_of device new) (λ e. ap (records_of device) is ∙ empty e) in
      let ready = places r old.clean ∙ ap (λ (o : Option (RegionView M)). is_wiped (place_of o old.clean)) (sym there) in
      let begun = ap (λ (x : RegionView M). x.begun) is ∙ nothing in
      (λ i. record { current = none_there i; other = place_of (gone i) false; ready = ready i; begun = begun i })

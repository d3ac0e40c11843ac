-- What a wipe leaves of the log's records.
use Rattle.std.proofs.Common.{◌≡◌, ◌≢◌, Bool, true, false, cond, [], refl, sym, ◌∙◌, ap}
use Rattle.std.specs.Prelude.{Option, Some, None, Result, Ok, Err, is_some, IfOk, IfSome, OnErr}
use Rattle.std.proofs.lemmas.Bool.{false≢true}
use Rattle.tier_device.specs.declared.media.Media.{Ghosts}
use Rattle.client_log.specs.update_log.View.{RegionView, records_of}
use Rattle.client_log.specs.update_log.declared.stage.WipeProgress.{WipeProgress}
use Rattle.client_log.specs.update_log.declared.stage.WipeProgress.TheVariants.{Going, Wiped}
use Rattle.client_log.specs.declared.error.LogError.{LogError}
use Rattle.client_log.specs.Turns.{Place, Away, Back, Turn, turn_of, place_of, current_wiped, other_wiped}
use Rattle.client_log.specs.Steps.{sealed_view}
use Rattle.client_log.specs.Turns as turns
use Rattle.client_log.specs.View.{LogView, current_records}

-- whether a region is not away, by its place
is_here : Place → Bool
is_here turns.Wiped = true
is_here turns.Away = false
is_here turns.Back = true

here_by : {M : Type 0} (o : Option (RegionView M)) (clean : Bool) → is_here (place_of o clean) ≡ is_some o
unfolding is_here
here_by None clean = refl
here_by (Some r) true = refl
here_by (Some r) false = refl

-- The records of both regions, the begun one and where the regions are stay.
pub record KeepsRecords {M : Type 0} (device : Ghosts M) (old new : LogView M) : Type 0 where
  pub records : current_records device new ≡ current_records device old
  pub begins : new.current.begun ≡ old.current.begun
  pub other : is_some new.other ≡ is_some old.other

module _ {M : Type 0} (device : Ghosts M) (old new : LogView M) where
  pub keeps_turn : turn_of device new ≡ turn_of device old → KeepsRecords device old new
  keeps_turn is = record {
    records = ap (λ (t : Turn). t.current) is;
    begins = ap (λ (t : Turn). t.begun) is;
    other = sym (here_by new.other new.clean) ∙ ap (λ (t : Turn). is_here t.other) is ∙ here_by old.other old.clean;
  }

  not_ready : old.ready ≡ false → current_records device old ≡ []
  not_ready is = ap (λ b. cond b (records_of device old.current) []) is

  keeps_current : old.ready ≡ false → turn_of device new ≡ current_wiped (turn_of device old) → KeepsRecords device old new
  keeps_current ready is = record {
    records = ap (λ (t : Turn). t.current) is ∙ sym (not_ready ready);
    begins = ap (λ (t : Turn). t.begun) is;
    other = sym (here_by new.other new.clean) ∙ ap (λ (t : Turn). is_here t.other) is ∙ here_by old.other old.clean;
  }

  keeps_other : (turn_of device old).other ≡ Back → turn_of device new ≡ other_wiped (turn_of device old) → KeepsRecords device old new
  unfolding is_here
  keeps_other back is = record {
    records = ap (λ (t : Turn). t.current) is;
    begins = ap (λ (t : Turn). t.begun) is;
    other = sym (here_by new.other new.clean) ∙ ap (λ (t : Turn). is_here t.other) is ∙ sym (ap is_here back) ∙ here_by old.other old.clean;
  }

  pub wipe_keeps : (r : Result (Option WipeProgress) LogError)
      → IfOk r (λ p. p ≢ None → old.ready ≡ true → (turn_of device old).other ≡ Back)
      → IfOk r (λ p. p ≡ Some Wiped → old.ready ≡ false → turn_of device new ≡ current_wiped (turn_of device old))
      → IfOk r (λ p. p ≡ Some Wiped → old.ready ≡ true → turn_of device new ≡ other_wiped (turn_of device old))
      → IfOk r (λ p. p ≢ Some Wiped → turn_of device new ≡ turn_of device old)
      → OnErr r (turn_of device new ≡ turn_of device old)
      → KeepsRecords device old new
  wipe_keeps (Err e) may current other going unwiped = keeps_turn unwiped
  wipe_keeps (Ok None) may current other going unwiped = keeps_turn (going (λ is. absurd (cc)))
  wipe_keeps (Ok (Some Going)) may current other going unwiped = keeps_turn (going (λ is. absurd (cc)))
  wipe_keeps (Ok (Some Wiped)) may current other going unwiped =
      elim (old.ready) as (λ b. old.ready ≡ b → KeepsRecords device old new) [
        | true ↦ λ is. keeps_other (may (λ none. absurd (cc)) is) (other refl is)
        | false ↦ λ is. keeps_current is (current refl is)
      ] refl

-- ---- a hand-over

module _ {M : Type 0} (old new : LogView M) where
  -- the log goes on in the region that was beside
  pub sealed_beside : is_some old.other ≡ true → IfSome old.other (λ r. new ≡ sealed_view old r) → (r : RegionView M) × (old.other ≡ Some r) × (new ≡ sealed_view old r)
  sealed_beside here goes_on = of old.other refl here goes_on
    where
      of : (o : Option (RegionView M)) → old.other ≡ o → is_some o ≡ true → IfSome o (λ r. new ≡ sealed_view old r) → (r : RegionView M) × (old.other ≡ Some r) × (new ≡ sealed_view old r)
      of None is here goes_on = absurd (false≢true here)
      of (Some r) is here goes_on = (r, is, goes_on)

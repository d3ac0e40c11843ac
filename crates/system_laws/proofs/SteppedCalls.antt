-- A device call of a begun call.
use Rattle.std.proofs.Common.{◌≡◌, ℕ, Bool, true, false, List, Option, Some, None, refl, ap, sym, ◌∙◌, subst}
use Rattle.std.specs.Prelude.{IfSome, is_some, not}
use Rattle.std.proofs.lemmas.Bool.{and_parts, false≢true}
use Rattle.tier_device.specs.declared.media.Media.{Ghosts}
use Rattle.tier_device.specs.declared.media.Tier.{Tier}
use Rattle.posix_calls.specs.declared.call.Call.{Call}
use Rattle.posix_calls.specs.declared.call.Reply.{Reply}
use Rattle.event_steps.specs.update_log.Stage.{progress}
use Rattle.event_steps.specs.update_log.declared.stage.Progress.{Progress}
use Rattle.event_steps.specs.update_log.declared.stage.Progress.TheVariants.{Going, Appended}
use Rattle.event_steps.specs.client_log.View.{LogView}
use Rattle.event_steps.specs.libfs.CallStep.{HasReplied}
use Rattle.event_steps.specs.libfs.View.{is_pending}
use Rattle.event_steps.specs.libfs.declared.begun_record.Begun.{Begun}
use Rattle.event_steps.specs.Calls.{IsStepped}
use Rattle.event_steps.specs.Effects.{MakesAt}
use Rattle.event_steps.specs.Outcomes.{step_outcome}
use Rattle.event_steps.specs.Turns.{CanPlay}
use Rattle.event_steps.specs.View.{SeatView, SystemView}
use Rattle.event_steps.specs.declared.event.Event.TheVariants.{Step}
use Rattle.event_steps.specs.declared.outcome.Outcome.{Outcome}
use Rattle.system_laws.specs.KeptCalls.{calls_then}
use Rattle.system_laws.specs.Steps.{IsBegunIn, IsStep}
use Rattle.system_laws.specs.WorldView.{WorldView}
use Rattle.system_laws.proofs.CallSteps.{failed, going}
use Rattle.system_laws.proofs.Given.{Given}
use Rattle.system_laws.proofs.OwnSeat.{turn_at}
use Rattle.system_laws.proofs.RepliedCalls.{replied}
use Rattle.system_laws.proofs.Seats.{client_is}
use Rattle.system_laws.proofs.StopsNow.{IsSized}

module _ {M : Type 0} (device : Ghosts M) (seen_now : (m : M) (t : Tier) → device.left m (device.moment m) t (device.seen m t)) (sized : IsSized device) (given : Given device)
    (v : WorldView M) (c : ℕ) (o : Outcome) (new : SystemView M) (begun : IsBegunIn device v new) (turn : CanPlay device v.system (Step c)) (makes : MakesAt device v.system c (Step c) o new) where
  abbrev s : SeatView M
  s = makes.seat

  abbrev x : SeatView M
  x = makes.seat_then

  abbrev made : IsStepped device s o x
  made = makes.makes.0

  abbrev Stepped : Type 0
  Stepped = IsStep device v (Step c) o (record { system = new; calls = calls_then v.calls (Step c) o })

  -- a call waits
  waits : is_pending s.client ≡ true
  waits = (turn_at device v c s (client_is c turn.0) makes.was (Step c) turn.1).1

  -- with the calls as they were
  quiet : (answer : Option Reply) → made.answer ≡ answer → calls_then v.calls (Step c) (step_outcome answer) ≡ v.calls → IsStep device v (Step c) o (record { system = new; calls = v.calls }) → Stepped
  quiet answer is same = subst (λ (calls : List (Option Call)). IsStep device v (Step c) o (record { system = new; calls = calls })) (sym (ap (calls_then v.calls (Step c)) (made.told ∙ ap step_outcome is) ∙ same))

  kept : (b : Option Begun) → s.client.begun ≡ b → s.client.log.failed ≡ false → x.client.log.failed ≡ false → IfSome b (λ y. HasReplied device s.client y made.answer x.client) → Stepped
  kept None is sound still has = absurd (false≢true (sym (ap is_some is) ∙ (and_parts (is_some s.client.begun) (not s.client.answered) waits).0))
  kept (Some b) is sound still has = replied device seen_now sized given v c o new begun turn makes sound still b is has

  by_progress : (p : Progress) → progress s.client.log.current.stage ≡ p → s.client.log.failed ≡ false → x.client.log.failed ≡ false → Stepped
  by_progress Going is sound still = let goes = made.going still is in quiet None goes.told refl (going device seen_now sized given v c o new begun turn makes sound still goes)
  by_progress Appended is sound still = kept s.client.begun refl sound still (made.replied still is)

  by_fault : (fails : Bool) → x.client.log.failed ≡ fails → Stepped
  by_fault true is = let faults = made.failed is in quiet _ faults.told refl (failed device seen_now sized given v c o new begun turn makes is faults)
  by_fault false is = by_progress (progress s.client.log.current.stage) refl (sound s.client.log.failed refl) is
    where
      sound : (b : Bool) → s.client.log.failed ≡ b → s.client.log.failed ≡ false
      sound false was = was
      sound true was = absurd (false≢true (sym is ∙ ap (λ (l : LogView M). l.failed) (made.stays_failed was) ∙ was))

  pub stepped : Stepped
  stepped = by_fault x.client.log.failed refl

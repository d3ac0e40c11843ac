-- What an event that answers no call came to.
use Rattle.std.specs.Prelude.{◌≡◌}
use Rattle.interleavings.specs.event_steps.declared.event.Event.{Event}
use Rattle.interleavings.specs.event_steps.declared.outcome.Outcome.{Outcome}
use Rattle.interleavings.specs.event_steps.declared.outcome.Outcome.TheVariants as outcome
use Rattle.interleavings.specs.event_steps.declared.outcome.Refusal.{Refusal}
use Rattle.call_driver.specs.Runs.{Leads}
use Rattle.call_driver.specs.declared.event_result.EventResult.{EventResult}
use Rattle.call_driver.specs.declared.event_result.EventResult.TheVariants as did

-- it was done or refused, or there was nothing to do
abbrev pub after_event : Outcome → EventResult
after_event (outcome.Reply reply) = did.Nothing
after_event outcome.Pending = did.Nothing
after_event (outcome.Need need) = did.Nothing
after_event outcome.Stepped = did.Done
after_event (outcome.Refused refusal) = did.Refused refusal
after_event outcome.Died = did.Nothing
after_event (outcome.Settled fate) = did.Nothing
after_event outcome.Buried = did.Nothing
after_event outcome.Joined = did.Nothing
after_event outcome.Idle = did.Nothing

-- An event came to this, and left this system.
abbrev pub CameTo : {S : Type 0} → (S → Event → Outcome → S → Type 0) → Event → EventResult → S → S → Type 0
CameTo plays e d s t = (o : Outcome) × plays s e o t × (d ≡ after_event o)

-- After some events of this kind one was refused, and nothing came after it.
abbrev pub IsRefusedIn : {S : Type 0} → (S → Event → Outcome → S → Type 0) → (Event → Type 0) → Refusal → S → S → Type 0
IsRefusedIn {S = S} plays P why s t = (u : S) × (e : Event) × Leads plays P s u × P e × CameTo plays e (did.Refused why) u t

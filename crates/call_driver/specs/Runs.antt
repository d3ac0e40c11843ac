-- Events of a running system, one after the other.
use Rattle.std.specs.Prelude.{◌≡◌, List, [], ◌∷◌}
use Rattle.interleavings.specs.event_steps.declared.event.Event.{Event}
use Rattle.interleavings.specs.event_steps.declared.outcome.Outcome.{Outcome}
use Rattle.interleavings.specs.event_steps.declared.outcome.Outcome.TheVariants as outcome
use Rattle.posix_calls.specs.declared.call.Reply.{Reply}

-- these events, each of this kind, lead from one system to another
abbrev pub IsRun : {S : Type 0} → (S → Event → Outcome → S → Type 0) → (Event → Type 0) → S → List Event → S → Type 0
IsRun plays P s [] t = t ≡ s
IsRun {S = S} plays P s (e ∷ es) t = P e × (o : Outcome) × (u : S) × plays s e o u × IsRun plays P u es t

-- events of this kind, and no others, lead from one system to another
abbrev pub Leads : {S : Type 0} → (S → Event → Outcome → S → Type 0) → (Event → Type 0) → S → S → Type 0
Leads plays P s t = (es : List Event) × IsRun plays P s es t

-- the last event, one of this kind, was answered so and left this system
abbrev pub IsLast : {S : Type 0} → (S → Event → Outcome → S → Type 0) → (Event → Type 0) → Reply → S → Type 0
IsLast {S = S} plays P reply t = (s : S) × (e : Event) × P e × plays s e (outcome.Reply reply) t

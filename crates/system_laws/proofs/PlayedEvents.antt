-- An event has nothing to do and changes nothing, or was its turn and made what it makes.
use Rattle.std.proofs.Common.{◌≡◌, ◌≢◌, ◌⊎◌, inl, inr, refl}
use Rattle.tier_device.specs.declared.media.Media.{Ghosts}
use Rattle.event_steps.specs.Effects.{Carries, Plays}
use Rattle.event_steps.specs.Turns.{CanPlay}
use Rattle.event_steps.specs.View.{SystemView}
use Rattle.event_steps.specs.declared.event.Event.{Event}
use Rattle.event_steps.specs.declared.outcome.Outcome.{Outcome}
use Rattle.event_steps.specs.declared.outcome.Outcome.TheVariants as outcomes
use Rattle.system_laws.specs.Leaves.{HasMetIn, IsSettledIn}
use Rattle.system_laws.specs.KeptCalls.{calls_then}
use Rattle.system_laws.specs.Steps.{IsBegunIn, IsStep}
use Rattle.system_laws.specs.WorldView.{WorldView}

was_done : {Turn Made Same : Type 0} (o : Outcome) → Carries Turn Made Same o → o ≢ outcomes.Idle → ((o ≡ outcomes.Idle) × Same) ⊎ (Turn × Made)
was_done o carries other = inr (carries.turn other, carries.made (carries.turn other))

pub idle_or_done : {Turn Made Same : Type 0} (o : Outcome) → Carries Turn Made Same o → ((o ≡ outcomes.Idle) × Same) ⊎ (Turn × Made)
idle_or_done (outcomes.Reply reply) carries = was_done (outcomes.Reply reply) carries (λ is. absurd (cc is))
idle_or_done outcomes.Pending carries = was_done outcomes.Pending carries (λ is. absurd (cc is))
idle_or_done (outcomes.Need need) carries = was_done (outcomes.Need need) carries (λ is. absurd (cc is))
idle_or_done outcomes.Stepped carries = was_done outcomes.Stepped carries (λ is. absurd (cc is))
idle_or_done (outcomes.Refused why) carries = was_done (outcomes.Refused why) carries (λ is. absurd (cc is))
idle_or_done outcomes.Died carries = was_done outcomes.Died carries (λ is. absurd (cc is))
idle_or_done (outcomes.Settled fate) carries = was_done (outcomes.Settled fate) carries (λ is. absurd (cc is))
idle_or_done outcomes.Buried carries = was_done outcomes.Buried carries (λ is. absurd (cc is))
idle_or_done outcomes.Joined carries = was_done outcomes.Joined carries (λ is. absurd (cc is))
idle_or_done outcomes.Idle carries = inl (refl, (carries.idle refl).1)

-- an event that was its turn is a step
abbrev pub IsAStep : {M : Type 0} → Ghosts M → Event → Type 0
IsAStep {M} device e = (v : WorldView M) (o : Outcome) (new : SystemView M) → IsBegunIn device v new → CanPlay device v.system e → Plays device v.system e o new → HasMetIn e new → IsSettledIn e v.system
    → IsStep device v e o (record { system = new; calls = calls_then v.calls e o })

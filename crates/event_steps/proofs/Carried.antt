-- How a seat's answer is told.
use Rattle.std.proofs.Common.{◌≢◌, refl}
use Rattle.event_steps.specs.Effects.{Carries}
use Rattle.event_steps.specs.declared.outcome.Outcome.{Outcome}
use Rattle.event_steps.specs.declared.outcome.Outcome.TheVariants as outcomes

-- there was nothing to do
pub nothing : {Turn Made Same : Type 0} → (Turn → ⊥) → Same → Carries Turn Made Same outcomes.Idle
nothing none same = record { idle = λ _. (none, same); turn = λ other. absurd (other refl); made = λ t. absurd (none t) }

-- something was done
pub done : {Turn Made Same : Type 0} (o : Outcome) → o ≢ outcomes.Idle → Turn → Made → Carries Turn Made Same o
done o other turn made = record { idle = λ e. absurd (other e); turn = λ _. turn; made = λ _. made }

-- it is allowed, and so it is as if it alone were asked for
pub allowed : {May Turn Made Same : Type 0} (o : Outcome) → May → Carries Turn Made Same o → Carries (May × Turn) Made Same o
allowed o may c = record { idle = λ e. let p = c.idle e in ((λ t. p.0 t.1), p.1); turn = λ other. (may, c.turn other); made = λ t. c.made t.1 }

-- it is not
pub forbidden : {May Turn Made Same : Type 0} → (May → ⊥) → Same → Carries (May × Turn) Made Same outcomes.Idle
forbidden none same = nothing (λ t. none t.0) same

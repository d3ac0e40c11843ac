-- How a call goes on or ends.
use Rattle.std.proofs.Common.{◌≡◌, ◌≢◌, ◌+◌, ◌≤◌, ℕ, Bool, inl, inr, refl, ap, sym, add-one, subst, Some, None}
use Rattle.std.specs.Prelude.{Result, Ok, Err}
use Rattle.posix_calls.specs.declared.call.Call.{Call}
use Rattle.interleavings.specs.client_plan.declared.need.Need.{Need}
use Rattle.interleavings.specs.libfs.declared.denial.Denied.{Denied}
use Rattle.interleavings.specs.event_steps.declared.event.Event.{Event}
use Rattle.interleavings.specs.event_steps.declared.event.Event.TheVariants as kinds
use Rattle.interleavings.specs.event_steps.declared.outcome.Outcome.{Outcome}
use Rattle.interleavings.specs.event_steps.declared.outcome.Outcome.TheVariants as outcome
use Rattle.call_driver.specs.Needs.{IsServed}
use Rattle.call_driver.specs.Calls.{append_calls, most_turns, GoesOn, IsCarriedOn, IsEndedBy, IsLastStep, IsStepOf, IsReadyCall, Turns}
use Rattle.call_driver.specs.EventOwner.{after_start, after_step}
use Rattle.call_driver.specs.declared.call_result.CallResult.{CallResult}
use Rattle.call_driver.specs.declared.call_result.CallResult.TheVariants as served
use Rattle.call_driver.specs.declared.needs.NeedResult.{NeedResult}
use Rattle.call_driver.specs.declared.needs.NeedResult.TheVariants as turns
use Rattle.call_driver.specs.declared.events.Events.{Ghosts}

-- ---- steps

went_on : (o : Outcome) → Some served.Pending ≡ after_step o → o ≡ outcome.Stepped
went_on (outcome.Reply reply) is = absurd (cc)
went_on outcome.Pending is = absurd (cc)
went_on (outcome.Need need) is = absurd (cc)
went_on outcome.Stepped is = refl
went_on (outcome.Refused why) is = absurd (cc)
went_on outcome.Died is = absurd (cc)
went_on (outcome.Settled fate) is = absurd (cc)
went_on outcome.Buried is = absurd (cc)
went_on outcome.Joined is = absurd (cc)
went_on outcome.Idle is = absurd (cc)

same_served : (x y : CallResult) → Some x ≡ Some y → x ≡ y
same_served x y is = cc is

last_step : (o : Outcome) (x : CallResult) → Some x ≡ after_step o → x ≢ served.Pending → IsLastStep o x
last_step (outcome.Reply reply) x is other = same_served x (served.Reply reply) is
last_step outcome.Pending x is other = absurd (cc)
last_step (outcome.Need need) x is other = absurd (cc)
last_step outcome.Stepped x is other = absurd (other (same_served x served.Pending is))
last_step (outcome.Refused why) x is other = absurd (cc)
last_step outcome.Died x is other = absurd (cc)
last_step (outcome.Settled fate) x is other = absurd (cc)
last_step outcome.Buried x is other = absurd (cc)
last_step outcome.Joined x is other = absurd (cc)
last_step outcome.Idle x is other = absurd (cc)

of_none : (x : CallResult) → None ≡ Some x → ⊥
of_none x is = absurd (cc)

none_step : (o : Outcome) → None ≡ after_step o → IsLastStep o served.Blocked
none_step (outcome.Reply reply) is = absurd (of_none (served.Reply reply) is)
none_step outcome.Pending is = refl
none_step (outcome.Need need) is = refl
none_step outcome.Stepped is = absurd (of_none served.Pending is)
none_step (outcome.Refused why) is = refl
none_step outcome.Died is = refl
none_step (outcome.Settled fate) is = refl
none_step outcome.Buried is = refl
none_step outcome.Joined is = refl
none_step outcome.Idle is = refl

module _ {S : Type 0} (plays : S → Event → Outcome → S → Type 0) (client : ℕ) where
  pub one_more_step : (n : ℕ) (s t u : S) → GoesOn plays client n s t → IsStepOf plays client (Some served.Pending) t u → GoesOn plays client (n + 1) s u
  one_more_step n s t u before (o, played, is) = subst (λ m. GoesOn plays client m s u) (sym (add-one n)) (t, before, subst (λ p. plays t (kinds.Step client) p u) (went_on o is) played)

  pub ended_by_step : (n : ℕ) (x : CallResult) (s t u : S) → GoesOn plays client n s t → n ≤ append_calls → IsStepOf plays client (Some x) t u → x ≢ served.Pending → IsCarriedOn plays client x s u
  ended_by_step n x s t u before few (o, played, is) other = record { count = n; last = t; steps = before; few = few; end = inr (o, played, last_step o x is other) }

  pub ended_by_none : (n : ℕ) (s t u : S) → GoesOn plays client n s t → n ≤ append_calls → IsStepOf plays client None t u → IsCarriedOn plays client served.Blocked s u
  ended_by_none n s t u before few (o, played, is) = record { count = n; last = t; steps = before; few = few; end = inr (o, played, none_step o is) }

-- ---- turns

abbrev lacking : Need → Result CallResult Need
lacking need = Err need

abbrev told_now : CallResult → Result CallResult Need
told_now x = Ok x

same_need : (x y : Need) → lacking x ≡ lacking y → x ≡ y
same_need x y is = cc is

needed : (o : Outcome) (need : Need) → lacking need ≡ after_start o → o ≡ outcome.Need need
needed (outcome.Reply reply) need is = absurd (cc)
needed outcome.Pending need is = absurd (cc)
needed (outcome.Need other) need is = ap (λ (x : Need). outcome.Need x) (same_need other need (sym is))
needed outcome.Stepped need is = absurd (cc)
needed (outcome.Refused why) need is = absurd (cc)
needed outcome.Died need is = absurd (cc)
needed (outcome.Settled fate) need is = absurd (cc)
needed outcome.Buried need is = absurd (cc)
needed outcome.Joined need is = absurd (cc)
needed outcome.Idle need is = absurd (cc)

module _ {S : Type 0} (system : Ghosts S) (hands : Bool) (client : ℕ) (call : Call) (e : Event) (starts : e ≡ kinds.Start client call) where
  lacked : (need : Need) (s t : S) → (o : Outcome) × system.plays s e o t × (lacking need ≡ after_start o) → system.plays s (kinds.Start client call) (outcome.Need need) t
  lacked need s t (o, played, is) = subst (λ f. system.plays s f (outcome.Need need) t) starts (subst (λ p. system.plays s e p t) (needed o need is) played)

  pub one_more_turn : (n : ℕ) (need : Need) (s t u v : S) → Turns system hands client call n s t → (o : Outcome) × system.plays t e o u × (lacking need ≡ after_start o) → IsServed system hands client need turns.Again u v → Turns system hands client call (n + 1) s v
  one_more_turn n need s t u v before lacks has = subst (λ m. Turns system hands client call m s v) (sym (add-one n)) (t, u, need, before, lacked need t u lacks, has)

  pub told_at_once : (n : ℕ) (x : CallResult) (s t u : S) → Turns system hands client call n s t → n ≤ most_turns → (o : Outcome) × system.plays t e o u × (told_now x ≡ after_start o) → IsReadyCall system hands client call (Ok x) s u
  told_at_once n x s t u before few (o, played, is) = record { count = n; last = t; turns = before; few = few; end = inr (inl (x, o, subst (λ f. system.plays t f o u) starts played, sym is, refl)) }

  pub told_by_need : (n : ℕ) (need : Need) (turn : NeedResult) (r : Result CallResult Denied) (s t u v : S) → Turns system hands client call n s t → n ≤ most_turns → (o : Outcome) × system.plays t e o u × (lacking need ≡ after_start o) → IsServed system hands client need turn u v → IsEndedBy turn r → IsReadyCall system hands client call r s v
  told_by_need n need turn r s t u v before few lacks has ends = record { count = n; last = t; turns = before; few = few; end = inr (inr (need, u, turn, lacked need t u lacks, has, ends)) }

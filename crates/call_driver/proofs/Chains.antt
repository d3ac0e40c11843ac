-- Runs of which an event is refused, and what a client digests before and after it hands a region over.
use Rattle.std.proofs.Common.{◌+◌, ℕ, inl, inr, refl, sym, add-one, subst}
use Rattle.std.specs.Prelude.{Result, Ok, Err}
use Rattle.interleavings.specs.event_steps.declared.event.Event.{Event}
use Rattle.interleavings.specs.event_steps.declared.event.Event.TheVariants as event
use Rattle.interleavings.specs.event_steps.declared.outcome.Outcome.{Outcome}
use Rattle.interleavings.specs.event_steps.declared.outcome.Refusal.{Refusal}
use Rattle.call_driver.specs.EventResults.{CameTo, IsRefusedIn}
use Rattle.call_driver.specs.Digests.{IsDigested, IsReclaimed, IsRegionDigested, IsRegionDone, Reclaims, Times}
use Rattle.call_driver.specs.Runs.{Leads}
use Rattle.call_driver.specs.EventOwner.{IsDigesting}
use Rattle.call_driver.specs.declared.events.Events.{Ghosts}
use Rattle.call_driver.specs.declared.event_result.EventResult.TheVariants as did
use Rattle.call_driver.proofs.RunLemmas.{leads_on, leads_then, leads_wider}

module _ {S : Type 0} (plays : S → Event → Outcome → S → Type 0) where
  -- the same, seen among events of a wider kind
  pub refused_wider : (P Q : Event → Type 0) → ((e : Event) → P e → Q e) → (why : Refusal) (s t : S) → IsRefusedIn plays P why s t → IsRefusedIn plays Q why s t
  refused_wider P Q wider why s t (u, e, run, is, came) = (u, e, leads_wider plays P Q wider s u run, wider e is, came)

  -- behind other events
  pub refused_after : (P : Event → Type 0) (why : Refusal) (s t u : S) → Leads plays P s t → IsRefusedIn plays P why t u → IsRefusedIn plays P why s u
  refused_after P why s t u first (v, e, run, is, came) = (v, e, leads_then plays P s t v first run, is, came)

  -- an event was done once more
  pub once_more : (e : Event) (n : ℕ) (s t u : S) → Times plays e n s t → CameTo plays e did.Done t u → Times plays e (n + 1) s u
  once_more e n s t u before came = subst (λ m. Times plays e m s u) (sym (add-one n)) (t, before, came)

  -- a file more was tried
  pub one_more_file : (n : ℕ) (s t u : S) → Reclaims plays n s t → IsReclaimed plays (n + 1) t u → Reclaims plays (n + 1) s u
  one_more_file n s t u before came = subst (λ m. Reclaims plays m s u) (sym (add-one n)) (t, before, subst (λ m. IsReclaimed plays m t u) (add-one n) came)

-- a region is handed over, and what it has is digested
pub after_seal : {S : Type 0} (system : Ghosts S) (client : ℕ) (r : Result (Unit {0}) Refusal) (s t u v : S) → IsRegionDigested system client s t → Leads system.plays (IsDigesting client) s t → CameTo system.plays (event.Seal client) did.Done t u → IsRegionDone system client r u v → IsDigested system client r s v
after_seal system client (Ok x) s t u v first run sealed rest = record { before = t; first = first; rest = inl (u, sealed, rest) }
after_seal system client (Err why) s t u v first run sealed rest = refused_after system.plays (IsDigesting client) why s u v (leads_on system.plays (IsDigesting client) s t (event.Seal client) u run (inr refl) (sealed.0, sealed.1)) rest

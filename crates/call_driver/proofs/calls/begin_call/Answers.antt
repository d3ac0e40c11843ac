use Rattle.std.proofs.Common.{◌≡◌, refl, inl, inr, false}
use Rattle.interleavings.specs.event_steps.declared.event.Event.TheVariants as event
use Rattle.call_driver.specs.EventOwner.{IsServing}
use Rattle.call_driver.proofs.KindLemmas.{own_serves}
use Rattle.call_driver.proofs.RunLemmas.{leads_on}
use Rattle.call_driver.proofs.calls.begin_call.Goals as goal

pub returns-in-Err-clause-events : goal.returns-in-Err-clause-events
returns-in-Err-clause-events g c =
    let denied = c.deny.ensures.exact c.args.client c.args.call refl in
    leads_on g.E.Events.plays (IsServing c.args.hands_over c.args.client) _ _ (event.Deny c.args.client c.args.call c.in-Err.why) _ c.start_until_ready.ensures.events (own_serves c.args.hands_over c.args.client _ refl) (denied.0, denied.1)

pub returns-in-Err-clause-answered : goal.returns-in-Err-clause-answered
returns-in-Err-clause-answered g c = λ reply is.
    (c.start_until_ready.new.events, event.Deny c.args.client c.args.call c.in-Err.why, inr (c.in-Err.why, refl), c.deny.ensures.answered c.args.client c.args.call reply refl is)

pub returns-in-Err-clause-begun : goal.returns-in-Err-clause-begun
returns-in-Err-clause-begun g c =
    let no : g.E.Events.pending c.args.events.now c.args.client ≡ false = cc in
    let denied = c.deny.ensures.exact c.args.client c.args.call refl in
    inr (c.is_dead.ensures.alive c.if-is_dead.false, no, inr (record { why = c.in-Err.why; last = c.start_until_ready.new.events; refused = c.in-Err.ensures.answer c.args.call refl; came = denied.0; denied = denied.1; told = denied.2 }))

pub returns-in-Ok-clause-begun : goal.returns-in-Ok-clause-begun
returns-in-Ok-clause-begun g c =
    let no : g.E.Events.pending c.args.events.now c.args.client ≡ false = cc in
    inr (c.is_dead.ensures.alive c.if-is_dead.false, no, inl (c.in-Ok.ensures.answer c.args.call refl))

use Rattle.std.proofs.Common.{arith, refl, inl}
use Rattle.std.specs.Prelude.{Ok, Err}
use Rattle.call_driver.specs.EventOwner.{IsServing}
use Rattle.call_driver.specs.declared.call_result.CallResult.TheVariants as served
use Rattle.call_driver.specs.declared.needs.NeedResult.TheVariants as turns
use Rattle.call_driver.proofs.Ends.{one_more_turn, told_at_once, told_by_need}
use Rattle.call_driver.proofs.KindLemmas.{own_serves}
use Rattle.call_driver.proofs.RunLemmas.{leads_on, leads_then}
use Rattle.call_driver.proofs.calls.start_until_ready.Goals as goal

pub returns-in-Ok-clause-answer : goal.returns-in-Ok-clause-answer
returns-in-Ok-clause-answer g c = λ call is. told_at_once g.E.Events c.args.hands_over c.args.client call c.args.event.now is c.loop-turn.turn c.in-Ok.served _ _ _ (c.loop-turn.invariant.turns call is) (omega (arith, c.loop-turn.auto.turn-end)) c.in-Ok.ensures.exact

pub returns-in-Ok-clause-events : goal.returns-in-Ok-clause-events
returns-in-Ok-clause-events g c = leads_on g.E.Events.plays (IsServing c.args.hands_over c.args.client) _ _ c.args.event.now _ c.loop-turn.invariant.run (own_serves c.args.hands_over c.args.client _ c.requires) (c.start.ensures.exact.0, c.start.ensures.exact.1)

pub returns-in-Blocked-clause-answer : goal.returns-in-Blocked-clause-answer
returns-in-Blocked-clause-answer g c = λ call is. told_by_need g.E.Events c.args.hands_over c.args.client call c.args.event.now is c.loop-turn.turn c.in-Err.need turns.Blocked (Ok served.Blocked) _ _ _ _ (c.loop-turn.invariant.turns call is) (omega (arith, c.loop-turn.auto.turn-end)) c.in-Err.ensures.exact c.in-Blocked.ensures.served refl

pub returns-in-Blocked-clause-events : goal.returns-in-Blocked-clause-events
returns-in-Blocked-clause-events g c =
    leads_then g.E.Events.plays (IsServing c.args.hands_over c.args.client) _ _ _ (leads_on g.E.Events.plays (IsServing c.args.hands_over c.args.client) _ _ c.args.event.now _ c.loop-turn.invariant.run (own_serves c.args.hands_over c.args.client _ c.requires) (c.start.ensures.exact.0, c.start.ensures.exact.1)) c.serve_need.ensures.events

pub returns-in-NoMemory-clause-answer : goal.returns-in-NoMemory-clause-answer
returns-in-NoMemory-clause-answer g c = λ call is. told_by_need g.E.Events c.args.hands_over c.args.client call c.args.event.now is c.loop-turn.turn c.in-Err.need turns.NoMemory (Ok served.NoMemory) _ _ _ _ (c.loop-turn.invariant.turns call is) (omega (arith, c.loop-turn.auto.turn-end)) c.in-Err.ensures.exact c.in-NoMemory.ensures.served refl

pub returns-in-NoMemory-clause-events : goal.returns-in-NoMemory-clause-events
returns-in-NoMemory-clause-events g c =
    leads_then g.E.Events.plays (IsServing c.args.hands_over c.args.client) _ _ _ (leads_on g.E.Events.plays (IsServing c.args.hands_over c.args.client) _ _ c.args.event.now _ c.loop-turn.invariant.run (own_serves c.args.hands_over c.args.client _ c.requires) (c.start.ensures.exact.0, c.start.ensures.exact.1)) c.serve_need.ensures.events

pub returns-in-Denied-clause-answer : goal.returns-in-Denied-clause-answer
returns-in-Denied-clause-answer g c = λ call is. told_by_need g.E.Events c.args.hands_over c.args.client call c.args.event.now is c.loop-turn.turn c.in-Err.need (turns.Denied c.in-Denied.why) (Err c.in-Denied.why) _ _ _ _ (c.loop-turn.invariant.turns call is) (omega (arith, c.loop-turn.auto.turn-end)) c.in-Err.ensures.exact c.in-Denied.ensures.served refl

pub returns-in-Denied-clause-events : goal.returns-in-Denied-clause-events
returns-in-Denied-clause-events g c =
    leads_then g.E.Events.plays (IsServing c.args.hands_over c.args.client) _ _ _ (leads_on g.E.Events.plays (IsServing c.args.hands_over c.args.client) _ _ c.args.event.now _ c.loop-turn.invariant.run (own_serves c.args.hands_over c.args.client _ c.requires) (c.start.ensures.exact.0, c.start.ensures.exact.1)) c.serve_need.ensures.events

pub loop-turn-preserved : goal.loop-turn-preserved
loop-turn-preserved g c = record {
  run = leads_then g.E.Events.plays (IsServing c.args.hands_over c.args.client) _ _ _ (leads_on g.E.Events.plays (IsServing c.args.hands_over c.args.client) _ _ c.args.event.now _ c.loop-turn.invariant.run (own_serves c.args.hands_over c.args.client _ c.requires) (c.start.ensures.exact.0, c.start.ensures.exact.1)) c.serve_need.ensures.events;
  turns = λ call is. one_more_turn g.E.Events c.args.hands_over c.args.client call c.args.event.now is c.loop-turn.turn c.in-Err.need _ _ _ _ (c.loop-turn.invariant.turns call is) c.in-Err.ensures.exact c.in-Again.ensures.served;
}

pub returns-clause-answer : goal.returns-clause-answer
returns-clause-answer g c = λ call is. record { count = c.loop-turn.turn; last = c.loop-turn.events; turns = c.loop-turn.invariant.turns call is; few = omega (arith, c.loop-turn.auto.turn-end); end = inl (omega (arith, c.loop-turn-test.false, c.loop-turn.auto.turn-end), refl, refl) }

use Rattle.std.proofs.Common.{◌∙◌, arith, refl, ap, subst, inl, Some}
use Rattle.interleavings.specs.event_steps.declared.event.Event.TheVariants as event
use Rattle.call_driver.specs.Calls.{IsStepOf}
use Rattle.call_driver.specs.EventOwner.{IsOfClient}
use Rattle.call_driver.proofs.Ends.{ended_by_none, ended_by_step, one_more_step}
use Rattle.call_driver.proofs.RunLemmas.{leads_on}
use Rattle.call_driver.proofs.calls.finish_append.Goals as goal

pub returns-in_default : goal.returns-in_default
returns-in_default g c =
    record {
      carried = ended_by_step g.E.Events.plays c.args.client c.loop-step.step c.in-Some.served _ _ _ c.loop-step.invariant.steps (omega (arith, c.loop-step.auto.step-end)) c.in-Some.ensures.exact c.in_default.not-Pending;
      events = leads_on g.E.Events.plays (IsOfClient c.args.client) _ _ (event.Step c.args.client) _ c.loop-step.invariant.run refl (c.step_call.ensures.exact.0, c.step_call.ensures.exact.1);
      answered = λ reply is. (c.loop-step.events, event.Step c.args.client, refl, c.step_call.ensures.answered reply (c.in-Some.is ∙ ap Some is));
    }

pub returns-in-None-clause-carried : goal.returns-in-None-clause-carried
returns-in-None-clause-carried g c = ended_by_none g.E.Events.plays c.args.client c.loop-step.step _ _ _ c.loop-step.invariant.steps (omega (arith, c.loop-step.auto.step-end)) c.in-None.ensures.exact

pub returns-in-None-clause-events : goal.returns-in-None-clause-events
returns-in-None-clause-events g c = leads_on g.E.Events.plays (IsOfClient c.args.client) _ _ (event.Step c.args.client) _ c.loop-step.invariant.run refl (c.step_call.ensures.exact.0, c.step_call.ensures.exact.1)

pub loop-step-preserved : goal.loop-step-preserved
loop-step-preserved g c = record {
  run = leads_on g.E.Events.plays (IsOfClient c.args.client) _ _ (event.Step c.args.client) _ c.loop-step.invariant.run refl (c.step_call.ensures.exact.0, c.step_call.ensures.exact.1);
  steps = one_more_step g.E.Events.plays c.args.client c.loop-step.step _ _ _ c.loop-step.invariant.steps (subst (λ x. IsStepOf g.E.Events.plays c.args.client (Some x) c.loop-step.events c.step_call.new.events) c.in-Pending.is c.in-Some.ensures.exact);
}

pub returns-clause-carried : goal.returns-clause-carried
returns-clause-carried g c = record { count = c.loop-step.step; last = c.loop-step.events; steps = c.loop-step.invariant.steps; few = omega (arith, c.loop-step.auto.step-end); end = inl (omega (arith, c.loop-step-test.false, c.loop-step.auto.step-end), refl, refl) }

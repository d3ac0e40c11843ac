use Rattle.std.proofs.Common.{rules, arith, ◌≡◌, refl, inr}
use Rattle.interleavings.specs.event_steps.declared.event.Event.TheVariants as event
use Rattle.call_driver.proofs.Chains.{once_more}
use Rattle.call_driver.proofs.RunLemmas.{leads_on}
use Rattle.call_driver.proofs.digests.wipe_all.Goals as goal

pub returns-in-Nothing : goal.returns-in-Nothing
returns-in-Nothing g c = record {
  wiped = (c.loop-step.step, record { last = c.loop-step.events; times = c.loop-step.invariant.times; few = omega (arith, c.loop-step.auto.step-end); end = inr c.in-Nothing.ensures }, c.loop-step.invariant.told);
  events = leads_on g.E.Events.plays (λ e. e ≡ event.WipeStep c.args.client) _ _ _ _ c.loop-step.invariant.run refl (c.carry_out.ensures.0, c.carry_out.ensures.1);
}

pub returns-in-Refused : goal.returns-in-Refused
returns-in-Refused g c = record {
  wiped = (c.loop-step.events, event.WipeStep c.args.client, c.loop-step.invariant.run, refl, c.in-Refused.ensures);
  events = leads_on g.E.Events.plays (λ e. e ≡ event.WipeStep c.args.client) _ _ _ _ c.loop-step.invariant.run refl (c.carry_out.ensures.0, c.carry_out.ensures.1);
}

pub loop-step-preserved : goal.loop-step-preserved
loop-step-preserved g c = record {
  run = leads_on g.E.Events.plays (λ e. e ≡ event.WipeStep c.args.client) _ _ _ _ c.loop-step.invariant.run refl (c.carry_out.ensures.0, c.carry_out.ensures.1);
  times = once_more g.E.Events.plays (event.WipeStep c.args.client) c.loop-step.step _ _ _ c.loop-step.invariant.times c.in-Done.ensures;
  told = search rules;
}

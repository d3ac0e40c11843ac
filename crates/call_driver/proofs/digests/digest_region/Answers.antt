use Rattle.std.proofs.Common.{arith, refl, inl, inr}
use Rattle.interleavings.specs.event_steps.declared.event.Event.TheVariants as event
use Rattle.call_driver.specs.EventOwner.{IsDigesting}
use Rattle.call_driver.proofs.Chains.{once_more}
use Rattle.call_driver.proofs.RunLemmas.{leads_on}
use Rattle.call_driver.proofs.digests.digest_region.Goals as goal

pub returns-in-Nothing : goal.returns-in-Nothing
returns-in-Nothing g c = record {
  digested = (c.loop-chunk.chunk, record { last = c.loop-chunk.events; times = c.loop-chunk.invariant.times; few = (let told = c.undigested-chunk-end.ensures in omega (arith, told, c.loop-chunk.auto.chunk-end)); end = inr c.in-Nothing.ensures });
  events = leads_on g.E.Events.plays (IsDigesting c.args.client) _ _ _ _ c.loop-chunk.invariant.run (inl refl) (c.carry_out.ensures.0, c.carry_out.ensures.1);
}

pub returns-in-Refused : goal.returns-in-Refused
returns-in-Refused g c = record {
  digested = (c.loop-chunk.events, event.Digest c.args.client, c.loop-chunk.invariant.run, inl refl, c.in-Refused.ensures);
  events = leads_on g.E.Events.plays (IsDigesting c.args.client) _ _ _ _ c.loop-chunk.invariant.run (inl refl) (c.carry_out.ensures.0, c.carry_out.ensures.1);
}

pub loop-chunk-preserved : goal.loop-chunk-preserved
loop-chunk-preserved g c = record {
  run = leads_on g.E.Events.plays (IsDigesting c.args.client) _ _ _ _ c.loop-chunk.invariant.run (inl refl) (c.carry_out.ensures.0, c.carry_out.ensures.1);
  times = once_more g.E.Events.plays (event.Digest c.args.client) c.loop-chunk.chunk _ _ _ c.loop-chunk.invariant.times c.in-Done.ensures;
}

use Rattle.std.proofs.Common.{refl, inr}
use Rattle.interleavings.specs.event_steps.declared.event.Event.TheVariants as event
use Rattle.call_driver.specs.EventOwner.{IsDigesting}
use Rattle.call_driver.proofs.Chains.{after_seal}
use Rattle.call_driver.proofs.RunLemmas.{leads_on, leads_then}
use Rattle.call_driver.proofs.digests.digest_all.Goals as goal

pub returns-in-Nothing : goal.returns-in-Nothing
returns-in-Nothing g c = record {
  digested = record { before = c.digest_region.new.events; first = c.in_ok-digest_region.ensures.digested; rest = inr c.in-Nothing.ensures };
  events = leads_on g.E.Events.plays (IsDigesting c.args.client) _ _ _ _ c.digest_region.ensures.events (inr refl) (c.carry_out.ensures.0, c.carry_out.ensures.1);
}

pub returns-in-Refused : goal.returns-in-Refused
returns-in-Refused g c = record {
  digested = (c.digest_region.new.events, event.Seal c.args.client, c.digest_region.ensures.events, inr refl, c.in-Refused.ensures);
  events = leads_on g.E.Events.plays (IsDigesting c.args.client) _ _ _ _ c.digest_region.ensures.events (inr refl) (c.carry_out.ensures.0, c.carry_out.ensures.1);
}

pub returns-in-Done : goal.returns-in-Done
returns-in-Done g c = record {
  digested = after_seal g.E.Events c.args.client c.digest_region-in-Done.result _ _ _ _ c.in_ok-digest_region.ensures.digested c.digest_region.ensures.events c.in-Done.ensures c.digest_region-in-Done.ensures.digested;
  events = leads_then g.E.Events.plays (IsDigesting c.args.client) _ _ _ (leads_on g.E.Events.plays (IsDigesting c.args.client) _ _ _ _ c.digest_region.ensures.events (inr refl) (c.carry_out.ensures.0, c.carry_out.ensures.1)) c.digest_region-in-Done.ensures.events;
}

use Rattle.call_driver.specs.EventOwner.{IsServing}
use Rattle.call_driver.proofs.KindLemmas.{own_serves}
use Rattle.call_driver.proofs.RunLemmas.{leads_by, leads_then}
use Rattle.call_driver.proofs.needs.take_lease.Goals as goal

pub returns-in-Done-clause-events : goal.returns-in-Done-clause-events
returns-in-Done-clause-events g c =
    leads_by g.E.Events.plays (IsServing c.args.hands_over c.args.client) _ _ _ (own_serves c.args.hands_over c.args.client _ c.lease_event-event.ensures.whose) (c.carry_out.ensures.0, c.carry_out.ensures.1)

pub returns-in-Nothing-clause-events : goal.returns-in-Nothing-clause-events
returns-in-Nothing-clause-events g c =
    leads_by g.E.Events.plays (IsServing c.args.hands_over c.args.client) _ _ _ (own_serves c.args.hands_over c.args.client _ c.lease_event-event.ensures.whose) (c.carry_out.ensures.0, c.carry_out.ensures.1)

pub returns-in-Refused-clause-events : goal.returns-in-Refused-clause-events
returns-in-Refused-clause-events g c =
    leads_then g.E.Events.plays (IsServing c.args.hands_over c.args.client) _ _ _ (leads_by g.E.Events.plays (IsServing c.args.hands_over c.args.client) _ _ _ (own_serves c.args.hands_over c.args.client _ c.lease_event-event.ensures.whose) (c.carry_out.ensures.0, c.carry_out.ensures.1)) c.ask_holders.ensures.events

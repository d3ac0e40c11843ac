use Rattle.call_driver.specs.EventOwner.{IsOfClient}
use Rattle.call_driver.proofs.RunLemmas.{leads_by}
use Rattle.call_driver.proofs.needs.ask_kernel.Goals as goal

pub returns-in-Done-clause-events : goal.returns-in-Done-clause-events
returns-in-Done-clause-events g c =
    leads_by g.E.Events.plays (IsOfClient c.args.client) _ _ _ c.event_for.ensures.whose (c.carry_out.ensures.0, c.carry_out.ensures.1)

pub returns-in-Nothing-clause-events : goal.returns-in-Nothing-clause-events
returns-in-Nothing-clause-events g c =
    leads_by g.E.Events.plays (IsOfClient c.args.client) _ _ _ c.event_for.ensures.whose (c.carry_out.ensures.0, c.carry_out.ensures.1)

pub returns-in-Refused-clause-events : goal.returns-in-Refused-clause-events
returns-in-Refused-clause-events g c =
    leads_by g.E.Events.plays (IsOfClient c.args.client) _ _ _ c.event_for.ensures.whose (c.carry_out.ensures.0, c.carry_out.ensures.1)

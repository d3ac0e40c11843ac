use Rattle.call_driver.specs.EventOwner.{IsOfClient, IsServing}
use Rattle.call_driver.proofs.KindLemmas.{own_serves}
use Rattle.call_driver.proofs.RunLemmas.{leads_wider}
use Rattle.call_driver.proofs.needs.serve_need.Goals as goal

pub returns-in-Room-clause-events : goal.returns-in-Room-clause-events
returns-in-Room-clause-events g c =
    leads_wider g.E.Events.plays (IsOfClient c.args.client) (IsServing c.args.hands_over c.args.client) (own_serves c.args.hands_over c.args.client) _ _ c.make_room.ensures.events

pub returns-in_default-clause-events : goal.returns-in_default-clause-events
returns-in_default-clause-events g c =
    leads_wider g.E.Events.plays (IsOfClient c.args.client) (IsServing c.args.hands_over c.args.client) (own_serves c.args.hands_over c.args.client) _ _ c.ask_kernel.ensures.events

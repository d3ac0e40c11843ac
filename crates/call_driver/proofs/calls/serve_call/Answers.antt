use Rattle.std.proofs.Common.{inl, inr}
use Rattle.call_driver.specs.EventOwner.{IsOfClient, IsServing}
use Rattle.call_driver.proofs.KindLemmas.{own_serves}
use Rattle.call_driver.proofs.RunLemmas.{leads_then, leads_wider}
use Rattle.call_driver.proofs.calls.serve_call.Goals as goal

pub returns-in-Pending-clause-events : goal.returns-in-Pending-clause-events
returns-in-Pending-clause-events g c =
    leads_then g.E.Events.plays (IsServing c.args.hands_over c.args.client) _ _ _ c.begin_call.ensures.events (leads_wider g.E.Events.plays (IsOfClient c.args.client) (IsServing c.args.hands_over c.args.client) (own_serves c.args.hands_over c.args.client) _ _ c.finish_append.ensures.events)

pub returns-in-Pending-clause-served : goal.returns-in-Pending-clause-served
returns-in-Pending-clause-served g c = inr (c.begin_call.new.events, c.in-Pending.ensures.begun, c.finish_append.ensures.carried)

pub returns-in_default-clause-served : goal.returns-in_default-clause-served
returns-in_default-clause-served g c = inl (c.in_default.not-Pending, c.begin_call.ensures.begun)

use Rattle.std.proofs.Common.{◌≡◌}
use Rattle.interleavings.specs.event_steps.declared.event.Event.TheVariants as event
use Rattle.call_driver.specs.EventOwner.{IsOfClient, IsDigesting}
use Rattle.call_driver.proofs.KindLemmas.{digesting_is_own, wipe_is_own}
use Rattle.call_driver.proofs.RunLemmas.{leads_then, leads_wider}
use Rattle.call_driver.proofs.needs.make_room.Goals as goal

pub returns-in-Ok-clause-events : goal.returns-in-Ok-clause-events
returns-in-Ok-clause-events g c =
    leads_then g.E.Events.plays (IsOfClient c.args.client) _ _ _ (leads_wider g.E.Events.plays (IsDigesting c.args.client) (IsOfClient c.args.client) (digesting_is_own c.args.client) _ _ c.digest_all.ensures.events) (leads_wider g.E.Events.plays (λ e. e ≡ event.WipeStep c.args.client) (IsOfClient c.args.client) (wipe_is_own c.args.client) _ _ c.wipe_all.ensures.events)

pub returns-in-Err-clause-events : goal.returns-in-Err-clause-events
returns-in-Err-clause-events g c =
    leads_wider g.E.Events.plays (IsDigesting c.args.client) (IsOfClient c.args.client) (digesting_is_own c.args.client) _ _ c.digest_all.ensures.events

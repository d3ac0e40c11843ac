use Rattle.call_driver.specs.EventOwner.{IsDigesting, IsHandingOver}
use Rattle.call_driver.proofs.KindLemmas.{digesting_hands_over}
use Rattle.call_driver.proofs.RunLemmas.{leads_then, leads_wider}
use Rattle.call_driver.proofs.lease_return.hand_over.Goals as goal

pub returns-in-Ok-clause-events : goal.returns-in-Ok-clause-events
returns-in-Ok-clause-events g c =
    leads_then g.E.Events.plays (IsHandingOver c.args.inode) _ _ _ (leads_wider g.E.Events.plays (IsDigesting c.args.client) (IsHandingOver c.args.inode) (digesting_hands_over c.args.client c.args.inode) _ _ c.digest_all.ensures.events) c.give.ensures.events

pub returns-in-Err-clause-events : goal.returns-in-Err-clause-events
returns-in-Err-clause-events g c =
    leads_wider g.E.Events.plays (IsDigesting c.args.client) (IsHandingOver c.args.inode) (digesting_hands_over c.args.client c.args.inode) _ _ c.digest_all.ensures.events

use Rattle.std.proofs.Common.{refl, inr}
use Rattle.call_driver.specs.EventOwner.{IsHandingOver}
use Rattle.call_driver.proofs.RunLemmas.{leads_by}
use Rattle.call_driver.proofs.lease_return.give.Goals as goal

pub returns-in-Done-clause-events : goal.returns-in-Done-clause-events
returns-in-Done-clause-events g c =
    leads_by g.E.Events.plays (IsHandingOver c.args.inode) _ _ _ (c.args.client, inr refl) (c.carry_out.ensures.0, c.carry_out.ensures.1)

pub returns-in_default-clause-events : goal.returns-in_default-clause-events
returns-in_default-clause-events g c =
    leads_by g.E.Events.plays (IsHandingOver c.args.inode) _ _ _ (c.args.client, inr refl) (c.carry_out.ensures.0, c.carry_out.ensures.1)

use Rattle.call_driver.specs.EventOwner.{IsServing, IsHandingOver}
use Rattle.call_driver.proofs.KindLemmas.{others_serve}
use Rattle.call_driver.proofs.RunLemmas.{leads_wider}
use Rattle.call_driver.proofs.needs.ask_holders.Goals as goal

pub returns-then-hands_over-clause-events : goal.returns-then-hands_over-clause-events
returns-then-hands_over-clause-events g c =
    leads_wider g.E.Events.plays (IsHandingOver c.args.inode) (IsServing c.args.hands_over c.args.client) (others_serve c.args.hands_over c.args.client c.args.inode c.if-hands_over.true) _ _ c.others_hand_over.ensures.events

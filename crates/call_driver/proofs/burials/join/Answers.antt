use Rattle.std.proofs.Common.{refl}
use Rattle.interleavings.specs.event_steps.declared.event.Event.TheVariants as event
use Rattle.call_driver.specs.EventOwner.{IsOfClient}
use Rattle.call_driver.proofs.RunLemmas.{leads_by}
use Rattle.call_driver.proofs.burials.join.Goals as goal

pub returns : goal.returns
returns g c = record {
  joined = (c.play.result, c.play.ensures, c.after_join.ensures);
  events = leads_by g.E.Events.plays (IsOfClient c.args.client) _ (event.Join c.args.client) _ refl (c.play.result, c.play.ensures);
}

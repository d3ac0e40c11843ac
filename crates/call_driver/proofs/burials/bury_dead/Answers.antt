use Rattle.std.proofs.Common.{refl, subst}
use Rattle.interleavings.specs.event_steps.declared.event.Event.TheVariants as event
use Rattle.std.specs.Prelude.{Result}
use Rattle.interleavings.specs.libfs.declared.fate.Found.{Found}
use Rattle.call_driver.specs.Burials.{AfterSettle}
use Rattle.call_driver.specs.EventOwner.{IsOfClient}
use Rattle.call_driver.specs.declared.burials.BuryResult.{BuryResult}
use Rattle.call_driver.proofs.RunLemmas.{leads_by, leads_then}
use Rattle.call_driver.proofs.burials.bury_dead.Goals as goal

pub returns-in-Ok : goal.returns-in-Ok
returns-in-Ok g c = record {
  buried = record { between = c.play-outcome.new.self; came = c.play-outcome.result; settled = c.play-outcome.ensures; rest = subst (λ (r : Result Found BuryResult). AfterSettle g.E.Events c.args.client r c.bury_settled.result c.play-outcome.new.self c.bury_settled.new.events) c.in-Ok.ensures c.bury_settled.ensures.buried };
  events = leads_then g.E.Events.plays (IsOfClient c.args.client) _ _ _ (leads_by g.E.Events.plays (IsOfClient c.args.client) _ (event.Settle c.args.client) _ refl (c.play-outcome.result, c.play-outcome.ensures)) c.bury_settled.ensures.events;
}

pub returns-in-Err : goal.returns-in-Err
returns-in-Err g c = record {
  buried = record { between = c.play-outcome.new.self; came = c.play-outcome.result; settled = c.play-outcome.ensures; rest = subst (λ (r : Result Found BuryResult). AfterSettle g.E.Events c.args.client r c.in-Err.end c.play-outcome.new.self c.play-outcome.new.self) c.in-Err.ensures (refl, refl) };
  events = leads_by g.E.Events.plays (IsOfClient c.args.client) _ (event.Settle c.args.client) _ refl (c.play-outcome.result, c.play-outcome.ensures);
}

use Rattle.std.proofs.Common.{refl, subst}
use Rattle.interleavings.specs.event_steps.declared.event.Event.TheVariants as event
use Rattle.std.specs.Prelude.{Result}
use Rattle.interleavings.specs.libfs.declared.fate.Found.{Found}
use Rattle.call_driver.specs.Burials.{AfterBury}
use Rattle.call_driver.specs.EventOwner.{IsOfClient}
use Rattle.call_driver.specs.declared.burials.BuryResult.{BuryResult}
use Rattle.call_driver.proofs.RunLemmas.{leads_by, leads_then}
use Rattle.call_driver.proofs.burials.leave_book.Goals as goal

pub returns-in-Ok : goal.returns-in-Ok
returns-in-Ok g c = record {
  buried = record { between = c.play-outcome.new.self; came = c.play-outcome.result; buried = c.play-outcome.ensures; rest = subst (λ (r : Result Found BuryResult). AfterBury g.E.Events c.args.client r c.renew_seat.result c.play-outcome.new.self c.renew_seat.new.events) c.in-Ok.ensures c.renew_seat.ensures.renewed };
  events = leads_then g.E.Events.plays (IsOfClient c.args.client) _ _ _ (leads_by g.E.Events.plays (IsOfClient c.args.client) _ (event.Bury c.args.client) _ refl (c.play-outcome.result, c.play-outcome.ensures)) c.renew_seat.ensures.events;
}

pub returns-in-Err : goal.returns-in-Err
returns-in-Err g c = record {
  buried = record { between = c.play-outcome.new.self; came = c.play-outcome.result; buried = c.play-outcome.ensures; rest = subst (λ (r : Result Found BuryResult). AfterBury g.E.Events c.args.client r c.in-Err.end c.play-outcome.new.self c.play-outcome.new.self) c.in-Err.ensures (refl, refl) };
  events = leads_by g.E.Events.plays (IsOfClient c.args.client) _ (event.Bury c.args.client) _ refl (c.play-outcome.result, c.play-outcome.ensures);
}

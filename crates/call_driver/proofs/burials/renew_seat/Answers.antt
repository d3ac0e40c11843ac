use Rattle.std.proofs.Common.{◌≡◌, refl, subst, sym}
use Rattle.std.specs.Prelude.{Bool, Result, Err}
use Rattle.interleavings.specs.event_steps.declared.event.Event.TheVariants as event
use Rattle.interleavings.specs.event_steps.declared.outcome.Refusal.{Refusal}
use Rattle.call_driver.specs.Burials.{AfterWipe}
use Rattle.call_driver.specs.EventOwner.{IsOfClient}
use Rattle.call_driver.proofs.KindLemmas.{wipe_is_own}
use Rattle.call_driver.proofs.RunLemmas.{leads_then, leads_wider}
use Rattle.call_driver.proofs.burials.renew_seat.Goals as goal

pub returns-in-Ok : goal.returns-in-Ok
returns-in-Ok g c = record {
  renewed = record { between = c.wipe_all.new.events; answer = c.wipe_all.result; wiped = c.wipe_all.ensures.wiped; rest = subst (λ (r : Result Bool Refusal). AfterWipe g.E.Events c.args.client c.args.found r c.join.result c.wipe_all.new.events c.join.new.events) (sym c.in-Ok.is) c.join.ensures.joined };
  events = leads_then g.E.Events.plays (IsOfClient c.args.client) _ _ _ (leads_wider g.E.Events.plays (λ e. e ≡ event.WipeStep c.args.client) (IsOfClient c.args.client) (wipe_is_own c.args.client) _ _ c.wipe_all.ensures.events) c.join.ensures.events;
}

pub returns-in-Err : goal.returns-in-Err
returns-in-Err g c = record {
  renewed = record { between = c.wipe_all.new.events; answer = Err c.in-Err.refusal; wiped = c.in-Err.ensures.wiped; rest = (refl, refl) };
  events = leads_wider g.E.Events.plays (λ e. e ≡ event.WipeStep c.args.client) (IsOfClient c.args.client) (wipe_is_own c.args.client) _ _ c.wipe_all.ensures.events;
}

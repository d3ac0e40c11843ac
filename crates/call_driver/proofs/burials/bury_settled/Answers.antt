use Rattle.std.proofs.Common.{refl}
use Rattle.std.specs.Prelude.{Ok, Err}
use Rattle.call_driver.specs.EventOwner.{IsDigesting, IsOfClient}
use Rattle.call_driver.proofs.KindLemmas.{digesting_is_own}
use Rattle.call_driver.proofs.RunLemmas.{leads_then, leads_wider}
use Rattle.call_driver.proofs.burials.bury_settled.Goals as goal

pub returns-in-Ok : goal.returns-in-Ok
returns-in-Ok g c = record {
  buried = record { between = c.digest_all.new.events; answer = Ok tt; digested = c.in-Ok.ensures.digested; rest = c.leave_book.ensures.buried };
  events = leads_then g.E.Events.plays (IsOfClient c.args.client) _ _ _ (leads_wider g.E.Events.plays (IsDigesting c.args.client) (IsOfClient c.args.client) (digesting_is_own c.args.client) _ _ c.digest_all.ensures.events) c.leave_book.ensures.events;
}

pub returns-in-Err : goal.returns-in-Err
returns-in-Err g c = record {
  buried = record { between = c.digest_all.new.events; answer = Err c.in-Err.refusal; digested = c.in-Err.ensures.digested; rest = (refl, refl) };
  events = leads_wider g.E.Events.plays (IsDigesting c.args.client) (IsOfClient c.args.client) (digesting_is_own c.args.client) _ _ c.digest_all.ensures.events;
}

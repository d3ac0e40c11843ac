use Rattle.std.proofs.Common.{refl, subst}
use Rattle.interleavings.specs.libfs.declared.life.Life.{Life}
use Rattle.call_driver.specs.Burials.{IsBuriedFrom}
use Rattle.call_driver.specs.EventOwner.{IsOfClient}
use Rattle.call_driver.specs.declared.burials.BuryResult.TheVariants as burials
use Rattle.call_driver.proofs.RunLemmas.{leads_nowhere}
use Rattle.call_driver.proofs.burials.bury_client.Goals as goal

pub returns-in-Alive : goal.returns-in-Alive
returns-in-Alive g c = record {
  buried = subst (λ (l : Life). IsBuriedFrom g.E.Events l c.args.client burials.Idle c.args.events.now c.args.events.now) c.in-Alive.ensures (refl, refl);
  events = leads_nowhere g.E.Events.plays (IsOfClient c.args.client) c.args.events.now;
}

pub returns-in-Dead : goal.returns-in-Dead
returns-in-Dead g c = record {
  buried = subst (λ (l : Life). IsBuriedFrom g.E.Events l c.args.client c.bury_dead.result c.args.events.now c.bury_dead.new.events) c.in-Dead.ensures c.bury_dead.ensures.buried;
  events = c.bury_dead.ensures.events;
}

pub returns-in-Settled : goal.returns-in-Settled
returns-in-Settled g c = record {
  buried = subst (λ (l : Life). IsBuriedFrom g.E.Events l c.args.client c.bury_settled.result c.args.events.now c.bury_settled.new.events) c.in-Settled.ensures c.bury_settled.ensures.buried;
  events = c.bury_settled.ensures.events;
}

pub returns-in-Buried : goal.returns-in-Buried
returns-in-Buried g c = record {
  buried = subst (λ (l : Life). IsBuriedFrom g.E.Events l c.args.client c.renew_seat.result c.args.events.now c.renew_seat.new.events) c.in-Buried.ensures c.renew_seat.ensures.renewed;
  events = c.renew_seat.ensures.events;
}

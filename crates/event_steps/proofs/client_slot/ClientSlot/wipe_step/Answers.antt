use Rattle.std.proofs.Common.{◌≡◌, false, ap, arith, subst}
use Rattle.event_steps.specs.Effects.{Carries}
use Rattle.event_steps.specs.Regions.{IsWipedOn}
use Rattle.event_steps.specs.Turns.{IsToBeWiped}
use Rattle.event_steps.specs.View.{SeatView}
use Rattle.libfs.specs.View.{ClientView}
use Rattle.event_steps.proofs.Handing.{not_to_be_wiped, to_be_wiped, wiped}
use Rattle.event_steps.proofs.client_slot.ClientSlot.wipe_step.Goals as goal

pub returns-clause-carries : goal.returns-clause-carries
returns-clause-carries g c =
    let device = g.M.Media in
    let s = c.self.inside in
    let going : s.client.log.failed ≡ false = grind arith in
    let new : SeatView _ = record { client = c.wipe_step.new.self; away = s.away; refused = s.refused; life = s.life } in
    let of : ClientView _ → SeatView _ = λ w. record { client = w; away = s.away; refused = s.refused; life = s.life } in
    subst (λ (v : SeatView _). Carries ((v.client.log.failed ≡ false) × IsToBeWiped v.client) (IsWipedOn device v c.wipe_outcome.result new) (new ≡ v) c.wipe_outcome.result) c.self.view_is
    (wiped c.wipe_step.result c.wipe_outcome.result c.wipe_outcome.ensures
    (λ is. let idle = c.wipe_step.ensures.idle.0 is in (λ turn. not_to_be_wiped s.client idle.1 idle.2 turn.1, ap of (c.wipe_step.ensures.nothing idle.0 idle.1 idle.2).1))
    (λ other. (going, to_be_wiped s.client (λ ready rest. other (c.wipe_step.ensures.idle.1 (going, ready, rest)))))
    (record {
      answer = c.wipe_step.result;
      told = c.wipe_outcome.ensures;
      any_moment = c.wipe_step.ensures.any_moment;
      current = c.wipe_step.ensures.current going;
      other = c.wipe_step.ensures.other going;
      rest = ap of c.wipe_step.ensures.rest;
    }))

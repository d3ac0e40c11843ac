use Rattle.std.proofs.Common.{◌≡◌, subst}
use Rattle.libfs.specs.client_log.View.{current_records}
use Rattle.event_steps.specs.View.{SeatView}
use Rattle.event_steps.proofs.system.System.current_records.Goals as goal

pub returns-in-Some : goal.returns-in-Some
returns-in-Some g c = record {
  there = λ _. (c.in-Some.seat.now, c.in-Some.ensures.there.1, subst (λ (s : SeatView _). c.current_records.result.now ≡ current_records g.M.Media s.client.log) c.seat-in-Some.view_is c.current_records.ensures);
  none = λ out. absurd (out c.in-Some.ensures.there.0);
}

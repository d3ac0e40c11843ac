use Rattle.std.proofs.Common.{◌≡◌, arith, subst}
use Rattle.libfs.specs.lease_manager.Words.{HasWord}
use Rattle.event_steps.specs.KernelRequests.{IsPinned}
use Rattle.event_steps.specs.Effects.{Carries}
use Rattle.event_steps.specs.View.{SeatView}
use Rattle.event_steps.proofs.Asked.{booked, carried}
use Rattle.event_steps.proofs.client_slot.ClientSlot.pin.Goals as goal

pub returns-clause-carries : goal.returns-clause-carries
returns-clause-carries g c =
    let device = g.M.Media in
    let s = c.self.inside in
    let k = c.args.kernel.now in
    let word : HasWord c.args.inode = grind arith in
    let new : SeatView _ = record { client = c.pin-answer.new.self; away = s.away; refused = c.note_answer.new.refused; life = s.life } in
    subst (λ (v : SeatView _). Carries (HasWord c.args.inode) (IsPinned device k v c.args.inode c.note_answer.result new c.pin-answer.new.kernel) ((new ≡ v) × (c.pin-answer.new.kernel ≡ k)) c.note_answer.result) c.self.view_is
    (carried c.pin-answer.result c.note_answer.result c.note_answer.ensures.outcome word (record {
      answer = c.pin-answer.result;
      booked = booked device k c.pin-answer.new.kernel s.client c.pin-answer.new.self s.away s.life s.refused c.note_answer.new.refused c.pin-answer.result c.note_answer.result c.note_answer.ensures.outcome c.note_answer.ensures.noted c.pin-answer.ensures.going c.pin-answer.ensures.failed (λ _. c.pin-answer.ensures.only) c.pin-answer.ensures.refused c.pin-answer.ensures.area c.pin-answer.ensures.opening;
      pins = c.pin-answer.ensures.pinned;
      step = c.pin-answer.ensures.step;
      out = c.pin-answer.ensures.out;
      only = c.pin-answer.ensures.only;
    }))

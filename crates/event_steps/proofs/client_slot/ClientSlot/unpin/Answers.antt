use Rattle.std.proofs.Common.{◌≡◌, arith, subst}
use Rattle.libfs.specs.declared.denial.Denied.TheVariants as denied
use Rattle.event_steps.specs.KernelRequests.{IsUnpinned}
use Rattle.event_steps.specs.Effects.{Carries}
use Rattle.event_steps.specs.Turns.{CanBeUnpinned}
use Rattle.event_steps.specs.View.{SeatView}
use Rattle.event_steps.proofs.Asked.{booked, carried, on_err, only_failed}
use Rattle.event_steps.proofs.client_slot.ClientSlot.unpin.Goals as goal

pub returns-clause-carries : goal.returns-clause-carries
returns-clause-carries g c =
    let device = g.M.Media in
    let s = c.self.inside in
    let k = c.args.kernel.now in
    let turn : CanBeUnpinned s.client c.args.inode = grind arith in
    let new : SeatView _ = record { client = c.unpin-answer.new.self; away = s.away; refused = c.note_answer.new.refused; life = s.life } in
    subst (λ (v : SeatView _). Carries (CanBeUnpinned v.client c.args.inode) (IsUnpinned device k v c.args.inode c.note_answer.result new c.unpin-answer.new.kernel) ((new ≡ v) × (c.unpin-answer.new.kernel ≡ k)) c.note_answer.result) c.self.view_is
    (carried c.unpin-answer.result c.note_answer.result c.note_answer.ensures.outcome turn (record {
      answer = c.unpin-answer.result;
      booked = booked device k c.unpin-answer.new.kernel s.client c.unpin-answer.new.self s.away s.life s.refused c.note_answer.new.refused c.unpin-answer.result c.note_answer.result c.note_answer.ensures.outcome c.note_answer.ensures.noted c.unpin-answer.ensures.going (on_err c.unpin-answer.result denied.KernelFailed c.unpin-answer.ensures.failed) (λ _. only_failed c.unpin-answer.result c.unpin-answer.ensures.only) c.unpin-answer.ensures.refused c.unpin-answer.ensures.area c.unpin-answer.ensures.opening;
      pins = c.unpin-answer.ensures.unpinned;
      step = c.unpin-answer.ensures.step;
      out = c.unpin-answer.ensures.out;
      only = c.unpin-answer.ensures.only;
    }))

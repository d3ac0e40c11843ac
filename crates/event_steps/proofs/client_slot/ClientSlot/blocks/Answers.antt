use Rattle.std.proofs.Common.{◌≡◌, arith, inr, subst}
use Rattle.event_steps.specs.KernelRequests.{AreFetched}
use Rattle.event_steps.specs.Effects.{Carries}
use Rattle.event_steps.specs.Turns.{IsHeld}
use Rattle.event_steps.specs.View.{SeatView}
use Rattle.event_steps.proofs.Asked.{asks, carried}
use Rattle.event_steps.proofs.client_slot.ClientSlot.blocks.Goals as goal

pub returns-clause-carries : goal.returns-clause-carries
returns-clause-carries g c =
    let device = g.M.Media in
    let s = c.self.inside in
    let k = c.args.kernel.now in
    let a = c.fetch_blocks-answer in
    let held : IsHeld s.client c.args.inode = grind arith in
    let new : SeatView _ = record { client = a.new.self; away = s.away; refused = c.note_answer.new.refused; life = s.life } in
    subst (λ (v : SeatView _). Carries (IsHeld v.client c.args.inode) (AreFetched device k v c.args.inode c.args.first c.args.count c.note_answer.result new a.new.kernel) ((new ≡ v) × (a.new.kernel ≡ k)) c.note_answer.result) c.self.view_is
    (carried a.result c.note_answer.result c.note_answer.ensures.outcome held (inr (record {
      answer = a.result;
      asks = asks device k a.new.kernel s.client a.new.self s.away s.life s.refused c.note_answer.new.refused a.result c.note_answer.result c.note_answer.ensures.outcome c.note_answer.ensures.noted;
      fetched = a.ensures.fetched;
      there = a.ensures.there;
      failed = a.ensures.failed;
      only = a.ensures.only;
      going = a.ensures.going;
      kernel = a.ensures.looks;
    })))

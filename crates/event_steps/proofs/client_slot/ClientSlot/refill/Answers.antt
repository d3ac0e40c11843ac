use Rattle.std.proofs.Common.{◌≡◌, ◌+◌, ◌≤◌, ◌^◌, arith, inl, inr, refl, subst}
use Rattle.std.specs.Prelude.{Err, ⊤}
use Rattle.event_steps.specs.KernelRequests.{IsRefilled}
use Rattle.event_steps.specs.Effects.{Carries}
use Rattle.event_steps.specs.View.{SeatView}
use Rattle.event_steps.proofs.Asked.{booked, carried, none_by, no_number, why_none}
use Rattle.event_steps.proofs.client_slot.ClientSlot.refill.Goals as goal

pub returns-then-not-fits-clause-carries : goal.returns-then-not-fits-clause-carries
returns-then-not-fits-clause-carries g c =
    let device = g.M.Media in
    let s = c.self.inside in
    let k = c.args.kernel.now in
    let why = c.none_so_many.result in
    let past : 2 ^ 32 ≤ s.client.spare + c.args.units = grind arith in
    let new : SeatView _ = record { client = s.client; away = s.away; refused = c.note_answer.new.refused; life = s.life } in
    subst (λ (v : SeatView _). Carries ⊤ (IsRefilled device k v c.args.units c.args.inodes c.note_answer.result new k) ((new ≡ v) × (k ≡ k)) c.note_answer.result) c.self.view_is
    (carried (Err why) c.note_answer.result c.note_answer.ensures.outcome tt (record {
      answer = Err why;
      booked = booked device k k s.client s.client s.away s.life s.refused c.note_answer.new.refused (Err why) c.note_answer.result c.note_answer.ensures.outcome c.note_answer.ensures.noted tt (none_by k.area.failed why c.none_so_many.ensures.going) (λ is. inl (c.none_so_many.ensures.failed is)) (refl, refl) refl refl;
      granted = tt;
      law = tt;
      no_units = λ _. inr past;
      no_inode = λ is. absurd (no_number k.area.failed why c.none_so_many.ensures.failed c.none_so_many.ensures.going is);
      only = why_none k.area.failed why c.none_so_many.ensures.failed c.none_so_many.ensures.going;
    }))

use Rattle.std.proofs.Common.{Some, None, cond, arith, rules}
use Rattle.client_view.specs.KnowledgeTables.{copy_at}
use Rattle.client_view.specs.AfterRecord.{is_made}
use Rattle.client_view.proofs.Rooms.{ready_for_all, ready_pushed}
use Rattle.client_view.proofs.enter_rooms.room_for_each.Goals as goal

pub loop-effect-init : goal.loop-effect-init
loop-effect-init c = record { ready = λ n e inside is there. absurd (omega (arith, inside)); count = search rules }

pub loop-effect-preserved : goal.loop-effect-preserved
loop-effect-preserved c = record {
  ready = ready_pushed c.loop-effect.rooms.items c.push.new.self.items c.in_ok-room.room c.args.effects.now (λ j. cond (is_made c.args.made j) (Some None) (copy_at c.args.slots.now j)) c.loop-effect.effect-index c.effect-item.result c.loop-effect.invariant.count c.loop-effect-test.true c.effect-item.is (search rules) (search rules) c.loop-effect.invariant.ready;
  count = search rules;
}

pub returns : goal.returns
returns c = ready_for_all c.loop-effect.rooms.items c.args.effects.now (λ j. cond (is_made c.args.made j) (Some None) (copy_at c.args.slots.now j)) c.loop-effect.effect-index c.loop-effect-test.false c.loop-effect.invariant.ready

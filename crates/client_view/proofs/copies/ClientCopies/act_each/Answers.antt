use Rattle.std.proofs.Common.{refl, ◌∙◌, arith, rules}
use Rattle.client_view.specs.KnowledgeTables.{knows}
use Rattle.client_view.proofs.LeftBlocks.{left_all, left_next, left_none}
use Rattle.client_view.proofs.Rooms.{is_room, known_all, known_next, known_none}
use Rattle.client_view.proofs.copies.ClientCopies.act_each.Goals as goal

pub loop-place-init : goal.loop-place-init
loop-place-init c = record { known = known_none (knows c.args.self.now); order = left_none c.args.self.now.blocks; rooms = λ n at. refl }

pub act_in_place-requires-clause-room : goal.act_in_place-requires-clause-room
act_in_place-requires-clause-room c =
    let e = c.index-effects-place.result in
    is_room c.args.rooms.now.items c.args.effects.now (knows c.args.self.now) (knows c.loop-place.self) c.loop-place.place e c.take_room-room.result c.requires.ready c.loop-place-test.true (search rules) c.loop-place.invariant.known
    (c.take_room-room.ensures.taken ∙ c.loop-place.invariant.rooms c.loop-place.place (omega arith))

pub loop-place-preserved : goal.loop-place-preserved
loop-place-preserved c =
    let e = c.index-effects-place.result in
    record {
      known = known_next (knows c.args.self.now) (knows c.loop-place.self) (knows c.act_in_place.new.self) c.args.effects.now c.loop-place.place e c.loop-place-test.true (search rules) c.loop-place.invariant.known c.act_in_place.ensures.known;
      order = left_next c.args.self.now.blocks c.loop-place.self.blocks c.act_in_place.new.self.blocks c.args.effects.now c.loop-place.place e c.loop-place-test.true (search rules) c.loop-place.invariant.order c.act_in_place.ensures.order;
      rooms = λ n at. c.take_room-room.ensures.rest n (omega (arith, at)) ∙ c.loop-place.invariant.rooms n (omega (arith, at));
    }

pub returns-clause-known : goal.returns-clause-known
returns-clause-known c = known_all (knows c.args.self.now) (knows c.loop-place.self) c.args.effects.now c.loop-place.place c.loop-place-test.false c.loop-place.invariant.known

pub returns-clause-order : goal.returns-clause-order
returns-clause-order c = left_all c.args.self.now.blocks c.loop-place.self.blocks c.args.effects.now c.loop-place.place c.loop-place-test.false c.loop-place.invariant.order

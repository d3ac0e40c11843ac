use Rattle.std.specs.Ordering.{nat_cmp}
use Rattle.std.specs.BTreeMap.{get}
use Rattle.record_validation.proofs.Taken.{taken_more, taken_all, agrees_after, on_error, room_more, room_here}
use Rattle.record_validation.proofs.effect_steps.take_effects.Goals as goal

pub loop-effect-preserved : goal.loop-effect-preserved
loop-effect-preserved c = record {
  known = taken_more c.args.effects.now c.loop-effect.effect-index c.effect-item.result c.loop-effect-test.true c.effect-item.is c.loop-effect.known c.take_effect.new.known c.args.known.now c.in_ok-take_effect.ensures.known c.loop-effect.invariant.known;
  room = λ wanted. c.loop-effect.invariant.room (room_more c.args.effects.now c.loop-effect.effect-index c.effect-item.result c.loop-effect-test.true c.effect-item.is c.loop-effect.known c.take_effect.new.known c.in_ok-take_effect.ensures.known wanted);
}

pub returns-clause-known : goal.returns-clause-known
returns-clause-known c = taken_all c.args.effects.now c.loop-effect.effect-index c.loop-effect-test.false c.loop-effect.known c.args.known.now c.loop-effect.invariant.known

pub returns-clause-agrees : goal.returns-clause-agrees
returns-clause-agrees c = λ g swaps agrees. agrees_after c.args.known.now c.loop-effect.known g c.args.effects.now (taken_all c.args.effects.now c.loop-effect.effect-index c.loop-effect-test.false c.loop-effect.known c.args.known.now c.loop-effect.invariant.known) swaps agrees

pub returns-in_err-take_effect-clause-memory : goal.returns-in_err-take_effect-clause-memory
returns-in_err-take_effect-clause-memory c = on_error c.from_residual.result (c.loop-effect.invariant.room (room_here c.args.effects.now c.loop-effect.effect-index c.effect-item.result c.loop-effect-test.true c.effect-item.is (get nat_cmp c.loop-effect.known) c.in_err-take_effect.ensures.memory))

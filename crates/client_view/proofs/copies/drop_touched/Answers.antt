use Rattle.client_view.proofs.LeftBlocks.{left_all, left_next, left_none}
use Rattle.client_view.proofs.copies.drop_touched.Goals as goal

pub loop-effect-init : goal.loop-effect-init
loop-effect-init c = left_none c.args.blocks.now

pub loop-effect-preserved : goal.loop-effect-preserved
loop-effect-preserved c =
    left_next c.args.blocks.now c.loop-effect.blocks c.drop_subjects.new.blocks c.args.effects.now c.loop-effect.effect-index c.effect-item.result c.loop-effect-test.true c.effect-item.is c.loop-effect.invariant c.drop_subjects.ensures

pub returns : goal.returns
returns c = left_all c.args.blocks.now c.loop-effect.blocks c.args.effects.now c.loop-effect.effect-index c.loop-effect-test.false c.loop-effect.invariant

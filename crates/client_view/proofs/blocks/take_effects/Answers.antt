use Rattle.std.proofs.Common.{take}
use Rattle.std.specs.Prelude.{option_map}
use Rattle.client_view.proofs.Steps.{part_all, part_more}
use Rattle.client_view.proofs.blocks.take_effects.Goals as goal

pub loop-effect-preserved : goal.loop-effect-preserved
loop-effect-preserved c = record {
  laid =
      part_more c.args.effects.now c.args.inode c.args.block c.loop-effect.effect-index c.effect-item.result c.loop-effect-test.true c.effect-item.is
      (option_map (λ n. take n c.loop-effect.buffer) c.loop-effect.laid) (option_map (λ n. take n c.take_effect-laid.new.buffer) c.take_effect-laid.result) (option_map (λ n. take n c.args.buffer.now) c.args.len)
      c.take_effect-laid.ensures.laid c.loop-effect.invariant.laid;
  within = c.take_effect-laid.ensures.within;
}

pub returns-clause-laid : goal.returns-clause-laid
returns-clause-laid c =
    part_all c.args.effects.now c.args.inode c.args.block c.loop-effect.effect-index c.loop-effect-test.false
    (option_map (λ n. take n c.loop-effect.buffer) c.loop-effect.laid) (option_map (λ n. take n c.args.buffer.now) c.args.len) c.loop-effect.invariant.laid

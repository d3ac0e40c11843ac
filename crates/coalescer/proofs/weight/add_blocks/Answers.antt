use Rattle.std.proofs.Common.{arith}
use Rattle.coalescer.proofs.Counted.{next_block}
use Rattle.coalescer.proofs.weight.add_blocks.Goals as goal

pub loop-block-preserved : goal.loop-block-preserved
loop-block-preserved c = next_block c.args.blocks.now c.loop-block.blocks c.insert.new.self c.args.inode c.args.first c.loop-block.block (omega (arith, c.loop-block.auto.block)) c.loop-block.invariant c.in_ok-insert.ensures.updates

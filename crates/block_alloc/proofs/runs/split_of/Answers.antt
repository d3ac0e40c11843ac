use Rattle.std.proofs.Common.{arith}
use Rattle.block_alloc.proofs.Blocks.{length-blocks-more}
use Rattle.block_alloc.proofs.runs.split_of.Goals as goal

pub whole-preserved : goal.whole-preserved
whole-preserved c = omega (arith, length-blocks-more c.args.runs.now c.whole.whole (record { first = 0; count = 0 }) c.whole-test.true)

use Rattle.std.proofs.Common.{arith, ◌+◌}
use Rattle.block_alloc.proofs.Blocks.{length-blocks-more, length-blocks-le}
use Rattle.block_alloc.proofs.runs.count_of.Goals as goal

pub overflow_add-count : goal.overflow_add-count
overflow_add-count c = omega (arith, c.runs.invariant, c.requires, length-blocks-more c.args.runs.now c.runs.place (record { first = 0; count = 0 }) c.runs-test.true, length-blocks-le c.args.runs.now (c.runs.place + 1))

pub runs-preserved : goal.runs-preserved
runs-preserved c = omega (arith, c.runs.invariant, length-blocks-more c.args.runs.now c.runs.place (record { first = 0; count = 0 }) c.runs-test.true)

use Rattle.std.proofs.Common.{arith, ◌+◌}
use Rattle.block_alloc.specs.declared.runs.Run.{Run}
use Rattle.block_alloc.proofs.Blocks.{length-blocks-more, length-blocks-le}
use Rattle.area_commit.proofs.data_write.bytes_of.Goals as goal

abbrev none : Run
none = record { first = 0; count = 0 }

pub overflow_add-bytes : goal.overflow_add-bytes
overflow_add-bytes c = omega (arith, length-blocks-more c.args.runs.now c.runs.place none c.runs-test.true, length-blocks-le c.args.runs.now (c.runs.place + 1), c.runs.invariant, c.requires)

pub runs-preserved : goal.runs-preserved
runs-preserved c = omega (arith, length-blocks-more c.args.runs.now c.runs.place none c.runs-test.true, c.runs.invariant)

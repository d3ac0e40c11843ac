use Rattle.change_plan.proofs.WrittenBlocks.{are_written}
use Rattle.change_plan.proofs.block_count.wanted_blocks_are_written.Goals as goal

pub returns : goal.returns
returns c g s cs count wants bounded tidy = are_written g s cs count wants

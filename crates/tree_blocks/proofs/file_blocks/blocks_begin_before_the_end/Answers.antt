use Rattle.tree_blocks.proofs.FileBlocks.{written_inside, left_inside}
use Rattle.tree_blocks.proofs.file_blocks.blocks_begin_before_the_end.Goals as goal

pub returns : goal.returns
returns c = record { written = written_inside; left = left_inside }

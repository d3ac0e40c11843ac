use Rattle.tree_blocks.proofs.FileBlocks.{file_law}
use Rattle.tree_blocks.proofs.file_blocks.blocks_after_are_file_after.Goals as goal

pub returns : goal.returns
returns = λ c. file_law

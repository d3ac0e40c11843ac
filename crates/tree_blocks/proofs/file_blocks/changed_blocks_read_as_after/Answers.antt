use Rattle.tree_blocks.proofs.FileBlocks.{made_of_same, made_whole, made_behind, zeros_are_none, hole_stays}
use Rattle.tree_blocks.proofs.file_blocks.changed_blocks_read_as_after.Goals as goal

pub returns : goal.returns
returns c = record { same = made_of_same; zeros = zeros_are_none; whole = made_whole; cut = made_behind; hole = hole_stays }

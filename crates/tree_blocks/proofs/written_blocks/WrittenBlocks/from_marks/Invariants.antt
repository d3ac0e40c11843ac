use Rattle.std.proofs.Common.{◌≡◌, ◌≤◌, length, take}
use Rattle.tree_blocks.specs.declared.written_blocks.TheConstants.{MOST_BLOCKS}
use Rattle.tree_blocks.specs.BlockMarks.{numbers_from}
use Rattle.tree_blocks.proofs.written_blocks.WrittenBlocks.from_marks.Given as goal

abbrev pub invariant-marks : goal.invariant-marks
invariant-marks l = record { few : l.len ≤ l.number; long : length l.numbers ≡ MOST_BLOCKS; so_far : take l.len l.numbers ≡ numbers_from 0 (take l.number l.marks) }

use Rattle.area_reader.specs.BlockMarks.{TakesBlocks}
use Rattle.area_reader.specs.Parts.{part_block, IsPlace}
use Rattle.area_reader.proofs.inode_marks.mark_places.Given as goal

abbrev pub invariant-places : goal.invariant-places
invariant-places l = TakesBlocks l.fn.used l.used (part_block l.parts) (IsPlace l.tier l.block)

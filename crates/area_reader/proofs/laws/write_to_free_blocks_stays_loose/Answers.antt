use Rattle.area_reader.proofs.Frames.{loose_more}
use Rattle.area_reader.proofs.laws.write_to_free_blocks_stays_loose.Goals as goal

pub returns : goal.returns
returns c = loose_more

use Rattle.area_reader.proofs.Torn.{loose_left, free_back}
use Rattle.area_reader.proofs.laws.free_blocks_stay_free.Goals as goal

pub returns : goal.returns
returns c = record { left = loose_left; free = free_back }

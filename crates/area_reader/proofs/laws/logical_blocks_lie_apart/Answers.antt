use Rattle.area_reader.proofs.Apart.{place_once}
use Rattle.area_reader.proofs.laws.logical_blocks_lie_apart.Goals as goal

pub returns : goal.returns
returns c = place_once

use Rattle.area_reader.proofs.Rewriting.{free_unused}
use Rattle.area_reader.proofs.change_laws.free_blocks_have_no_use.Goals as goal

pub returns : goal.returns
returns c = free_unused

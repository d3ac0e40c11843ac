use Rattle.relocation.proofs.Storing.{is_planned}
use Rattle.relocation.proofs.laws.move_is_planned.Goals as goal

pub returns : goal.returns
returns c = is_planned

use Rattle.change_plan.proofs.Summed.{are_planned}
use Rattle.change_plan.proofs.laws.parts_are_planned.Goals as goal

pub returns : goal.returns
returns c = are_planned

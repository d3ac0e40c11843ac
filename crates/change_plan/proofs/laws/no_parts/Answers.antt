use Rattle.change_plan.proofs.Before.{before_the_first}
use Rattle.change_plan.proofs.laws.no_parts.Goals as goal

pub returns : goal.returns
returns c = before_the_first

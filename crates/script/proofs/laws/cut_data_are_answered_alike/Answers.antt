use Rattle.script.proofs.Cut.{over, alike}
use Rattle.script.proofs.laws.cut_data_are_answered_alike.Goals as goal

pub returns-clause-over : goal.returns-clause-over
returns-clause-over c = over

pub returns-clause-alike : goal.returns-clause-alike
returns-clause-alike c = alike

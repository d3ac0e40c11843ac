use Rattle.graph_check.proofs.Unsound.{unsound}
use Rattle.graph_check.proofs.laws.graph_with_a_defect_is_unsound.Goals as goal

pub returns : goal.returns
returns c = unsound

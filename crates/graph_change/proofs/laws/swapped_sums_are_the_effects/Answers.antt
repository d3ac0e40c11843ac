use Rattle.graph_change.proofs.SwapNames.{sum_is}
use Rattle.graph_change.proofs.laws.swapped_sums_are_the_effects.Goals as goal

pub returns : goal.returns
returns c = sum_is

use Rattle.call_effects.proofs.Fresh.{fresh_within}
use Rattle.call_effects.proofs.laws.fresh_graph_is_within_its_limits.Goals as goal

pub returns : goal.returns
returns c = fresh_within

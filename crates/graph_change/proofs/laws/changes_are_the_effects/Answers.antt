use Rattle.graph_change.proofs.Touched.{coalesces}
use Rattle.graph_change.proofs.laws.changes_are_the_effects.Goals as goal

pub returns : goal.returns
returns c = coalesces

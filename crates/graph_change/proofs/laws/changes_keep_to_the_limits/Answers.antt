use Rattle.graph_change.proofs.Bounding.{bounded_one, bounded_coalesced}
use Rattle.graph_change.proofs.laws.changes_keep_to_the_limits.Goals as goal

pub returns : goal.returns
returns c = record { kept = bounded_one; coalesced = bounded_coalesced }

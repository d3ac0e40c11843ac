use Rattle.graph_change.specs.View.{change_of, patch_of}
use Rattle.graph_change.proofs.Maps.{value_at}
use Rattle.graph_change.proofs.laws.changes_are_read_by_number.Goals as goal

pub returns : goal.returns
returns c = record { nodes = value_at change_of; blocks = value_at patch_of }

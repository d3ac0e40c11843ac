use Rattle.graph_change.proofs.Overs.{whole_is_free}
use Rattle.graph_change.proofs.laws.whole_block_needs_no_old_bytes.Goals as goal

pub returns : goal.returns
returns c = whole_is_free

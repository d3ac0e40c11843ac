use Rattle.client_view.proofs.Put.{used_is_known}
use Rattle.client_view.proofs.laws.used_blocks_are_known_as_before.Goals as goal

pub returns : goal.returns
returns c = used_is_known

use Rattle.world_invariant.proofs.Orders.{still_digests, digests_same}
use Rattle.world_invariant.proofs.order_laws.digests_commute.Goals as goal

pub returns-clause-still : goal.returns-clause-still
returns-clause-still r = still_digests

pub returns-clause-same : goal.returns-clause-same
returns-clause-same r = λ w c d first rest second more h off can then. digests_same w c d first rest second more h off can then

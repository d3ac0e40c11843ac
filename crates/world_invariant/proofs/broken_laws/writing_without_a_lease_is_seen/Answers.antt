use Rattle.world_invariant.proofs.Breaks.{not_apart, order_seen}
use Rattle.world_invariant.proofs.broken_laws.writing_without_a_lease_is_seen.Goals as goal

pub returns-clause-broken : goal.returns-clause-broken
returns-clause-broken c = not_apart

pub returns-clause-seen : goal.returns-clause-seen
returns-clause-seen c = order_seen

use Rattle.world_invariant.proofs.AloneRecords.{fewer_alone, fewer_unheld, fewer_fetch, fewer_wrong}
use Rattle.world_invariant.proofs.broken_laws.record_without_a_lease_is_missed_by_a_fetch.Goals as goal

pub returns-clause-alone : goal.returns-clause-alone
returns-clause-alone c = fewer_alone

pub returns-clause-can : goal.returns-clause-can
returns-clause-can c = fewer_unheld

pub returns-clause-fetches : goal.returns-clause-fetches
returns-clause-fetches c = fewer_fetch

pub returns-clause-stale : goal.returns-clause-stale
returns-clause-stale c = fewer_wrong

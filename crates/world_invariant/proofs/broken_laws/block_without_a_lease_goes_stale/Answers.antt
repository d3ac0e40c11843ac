use Rattle.world_invariant.proofs.AloneCopies.{block_alone, block_begun, block_stale}
use Rattle.world_invariant.proofs.broken_laws.block_without_a_lease_goes_stale.Goals as goal

pub returns-clause-alone : goal.returns-clause-alone
returns-clause-alone c = block_alone

pub returns-clause-begun : goal.returns-clause-begun
returns-clause-begun c = block_begun

pub returns-clause-stale : goal.returns-clause-stale
returns-clause-stale c = block_stale

use Rattle.std.specs.Prelude.{false}
use Rattle.world_invariant.proofs.BrokenWorlds.{watching_begun, watching_stale}
use Rattle.world_invariant.proofs.AloneCopies.{unleased_alone}
use Rattle.world_invariant.proofs.broken_laws.copy_without_a_lease_goes_stale.Goals as goal

pub returns-clause-alone : goal.returns-clause-alone
returns-clause-alone c = unleased_alone

pub returns-clause-begun : goal.returns-clause-begun
returns-clause-begun c = watching_begun (λ i. false)

pub returns-clause-stale : goal.returns-clause-stale
returns-clause-stale c = watching_stale (λ i. false)

use Rattle.world_invariant.specs.BrokenWorlds.{root_alone}
use Rattle.world_invariant.proofs.BrokenWorlds.{watching_begun, watching_stale}
use Rattle.world_invariant.proofs.AloneCopies.{beside_alone}
use Rattle.world_invariant.proofs.broken_laws.copy_beside_a_writer_goes_stale.Goals as goal

pub returns-clause-alone : goal.returns-clause-alone
returns-clause-alone c = beside_alone

pub returns-clause-begun : goal.returns-clause-begun
returns-clause-begun c = watching_begun root_alone

pub returns-clause-stale : goal.returns-clause-stale
returns-clause-stale c = watching_stale root_alone

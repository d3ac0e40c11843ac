use Rattle.world_invariant.specs.BrokenWorlds.{rootless}
use Rattle.world_invariant.proofs.BrokenStores.{leaves, rootless_stored}
use Rattle.world_invariant.proofs.AloneStores.{rootless_alone}
use Rattle.world_invariant.proofs.broken_laws.stop_of_an_unsound_whole_is_not_recoverable.Goals as goal

pub returns-clause-alone : goal.returns-clause-alone
returns-clause-alone c = rootless_alone

pub returns-clause-can : goal.returns-clause-can
returns-clause-can c = leaves rootless

pub returns-clause-lost : goal.returns-clause-lost
returns-clause-lost c = rootless_stored

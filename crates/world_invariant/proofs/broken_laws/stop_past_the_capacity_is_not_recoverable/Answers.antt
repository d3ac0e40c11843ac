use Rattle.world_invariant.specs.BrokenWorlds.{overfull}
use Rattle.world_invariant.proofs.BrokenStores.{leaves, overfull_stored}
use Rattle.world_invariant.proofs.AloneStores.{overfull_alone}
use Rattle.world_invariant.proofs.broken_laws.stop_past_the_capacity_is_not_recoverable.Goals as goal

pub returns-clause-alone : goal.returns-clause-alone
returns-clause-alone c = overfull_alone

pub returns-clause-can : goal.returns-clause-can
returns-clause-can c = leaves overfull

pub returns-clause-lost : goal.returns-clause-lost
returns-clause-lost c = overfull_stored

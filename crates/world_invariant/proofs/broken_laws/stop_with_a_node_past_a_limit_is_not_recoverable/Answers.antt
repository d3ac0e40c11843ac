use Rattle.world_invariant.specs.BrokenWorlds.{large_file}
use Rattle.world_invariant.proofs.BrokenStores.{leaves, large_stored}
use Rattle.world_invariant.proofs.AloneStores.{large_alone}
use Rattle.world_invariant.proofs.broken_laws.stop_with_a_node_past_a_limit_is_not_recoverable.Goals as goal

pub returns-clause-alone : goal.returns-clause-alone
returns-clause-alone c = large_alone

pub returns-clause-can : goal.returns-clause-can
returns-clause-can c = λ bytes. leaves (large_file bytes)

pub returns-clause-lost : goal.returns-clause-lost
returns-clause-lost c = large_stored

use Rattle.world_invariant.proofs.Idle.{idle_holds, idle_tree}
use Rattle.world_invariant.proofs.opening_laws.idle_world_holds.Goals as goal

pub returns-clause-holds : goal.returns-clause-holds
returns-clause-holds c = idle_holds

pub returns-clause-tree : goal.returns-clause-tree
returns-clause-tree c = idle_tree

use Rattle.world_invariant.proofs.Burials.{departed_holds, departed_tree}
use Rattle.world_invariant.proofs.burial_laws.dead_client_may_depart.Goals as goal

pub returns-clause-holds : goal.returns-clause-holds
returns-clause-holds c = departed_holds

pub returns-clause-tree : goal.returns-clause-tree
returns-clause-tree c = departed_tree

use Rattle.world_invariant.proofs.Burials.{joined_holds, joined_tree, joined_client, joined_kernel}
use Rattle.world_invariant.proofs.burial_laws.new_client_may_join.Goals as goal

pub returns-clause-holds : goal.returns-clause-holds
returns-clause-holds c = joined_holds

pub returns-clause-tree : goal.returns-clause-tree
returns-clause-tree c = joined_tree

pub returns-clause-fresh : goal.returns-clause-fresh
returns-clause-fresh c = joined_client

pub returns-clause-kernel : goal.returns-clause-kernel
returns-clause-kernel c = joined_kernel

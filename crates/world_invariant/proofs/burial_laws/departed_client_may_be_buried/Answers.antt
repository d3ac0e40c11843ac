use Rattle.world_invariant.proofs.Burials.{buried_holds, buried_tree, buried_account}
use Rattle.world_invariant.proofs.burial_laws.departed_client_may_be_buried.Goals as goal

pub returns-clause-holds : goal.returns-clause-holds
returns-clause-holds c = buried_holds

pub returns-clause-tree : goal.returns-clause-tree
returns-clause-tree c = buried_tree

pub returns-clause-account : goal.returns-clause-account
returns-clause-account c = buried_account

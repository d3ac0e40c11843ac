use Rattle.world_invariant.proofs.Leases.{given_holds, given_tree}
use Rattle.world_invariant.proofs.lease_laws.lease_may_be_given.Goals as goal

pub returns-clause-holds : goal.returns-clause-holds
returns-clause-holds c = given_holds

pub returns-clause-tree : goal.returns-clause-tree
returns-clause-tree c = given_tree

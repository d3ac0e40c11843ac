use Rattle.world_invariant.proofs.Begins.{given_up_holds, given_up_tree}
use Rattle.world_invariant.proofs.call_laws.begun_call_may_be_given_up.Goals as goal

pub returns-clause-holds : goal.returns-clause-holds
returns-clause-holds c = given_up_holds

pub returns-clause-tree : goal.returns-clause-tree
returns-clause-tree c = given_up_tree

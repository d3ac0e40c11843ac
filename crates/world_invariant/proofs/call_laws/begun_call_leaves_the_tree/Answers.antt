use Rattle.world_invariant.proofs.Begins.{begun_holds, begun_tree}
use Rattle.world_invariant.proofs.call_laws.begun_call_leaves_the_tree.Goals as goal

pub returns-clause-holds : goal.returns-clause-holds
returns-clause-holds c = begun_holds

pub returns-clause-tree : goal.returns-clause-tree
returns-clause-tree c = begun_tree

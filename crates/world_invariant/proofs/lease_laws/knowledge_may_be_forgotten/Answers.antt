use Rattle.world_invariant.proofs.Forgets.{forgotten_holds, forgotten_tree, blocks_forgotten_hold, blocks_forgotten_tree}
use Rattle.world_invariant.proofs.lease_laws.knowledge_may_be_forgotten.Goals as goal

pub returns-clause-holds : goal.returns-clause-holds
returns-clause-holds c = forgotten_holds

pub returns-clause-tree : goal.returns-clause-tree
returns-clause-tree c = forgotten_tree

pub returns-clause-blocks : goal.returns-clause-blocks
returns-clause-blocks c = blocks_forgotten_hold

pub returns-clause-blocks_tree : goal.returns-clause-blocks_tree
returns-clause-blocks_tree c = blocks_forgotten_tree

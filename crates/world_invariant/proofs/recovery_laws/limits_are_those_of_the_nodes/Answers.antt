use Rattle.world_invariant.proofs.Within.{nodes_within, tree_within}
use Rattle.world_invariant.proofs.recovery_laws.limits_are_those_of_the_nodes.Goals as goal

pub returns-clause-nodes : goal.returns-clause-nodes
returns-clause-nodes c = nodes_within

pub returns-clause-tree : goal.returns-clause-tree
returns-clause-tree c = tree_within

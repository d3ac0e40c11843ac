use Rattle.tree_blocks.proofs.Alike.{node_same, consistent_same}
use Rattle.tree_blocks.proofs.node_laws.alike_inodes_are_one_node.Goals as goal

pub returns : goal.returns
returns = λ c. record { node = node_same; consistent = consistent_same }

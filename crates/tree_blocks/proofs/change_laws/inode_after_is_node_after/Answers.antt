use Rattle.tree_blocks.proofs.Edited.{node_law}
use Rattle.tree_blocks.proofs.change_laws.inode_after_is_node_after.Goals as goal

pub returns : goal.returns
returns = λ c. node_law

use Rattle.tree_blocks.proofs.Edited.{graph_law}
use Rattle.tree_blocks.proofs.change_laws.inodes_after_are_graph_after.Goals as goal

pub returns : goal.returns
returns = λ c. graph_law

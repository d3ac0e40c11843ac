use Rattle.tree_blocks.proofs.Rewriting.{gone_after, none_after, file_after, directory_after}
use Rattle.tree_blocks.proofs.rewrite_laws.rewritten_inode_is_inode_after.Goals as goal

pub returns : goal.returns
returns c = record { gone = gone_after; none = none_after; file = file_after; directory = directory_after }

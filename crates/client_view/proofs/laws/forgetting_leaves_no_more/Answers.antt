use Rattle.client_view.proofs.Forgetting.{no_inode, no_blocks, no_number}
use Rattle.client_view.proofs.laws.forgetting_leaves_no_more.Goals as goal

pub returns : goal.returns
returns c = record { inode = no_inode; blocks = no_blocks; number = no_number }

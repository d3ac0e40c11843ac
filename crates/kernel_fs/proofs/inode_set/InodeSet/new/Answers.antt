use Rattle.std.proofs.Common.{replicate}
use Rattle.std.proofs.lemmas.List.{get_or-replicate}
use Rattle.kernel_fs.proofs.Rows.{has_zero}
use Rattle.kernel_fs.proofs.inode_set.InodeSet.new.Goals as goal

pub returns : goal.returns
returns c = has_zero (replicate 16 0) (λ r low. get_or-replicate 16 r 0 0 low)

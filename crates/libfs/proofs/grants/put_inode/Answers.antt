use Rattle.std.proofs.Common.{◌∙◌, sym}
use Rattle.kernel_fs.specs.Inodes.{has}
use Rattle.libfs.proofs.Granted.{inode_put, other_put}
use Rattle.libfs.proofs.grants.put_inode.Goals as goal

pub returns-then-is_inode : goal.returns-then-is_inode
returns-then-is_inode c = λ i. c.insert.ensures i ∙ inode_put c.args.number i (has c.args.set.now i) (sym c.is_inode.ensures.test ∙ c.if-is_inode.true)

pub returns-else-is_inode : goal.returns-else-is_inode
returns-else-is_inode c = λ i. other_put c.args.number i (has c.args.set.now i) (sym c.is_inode.ensures.test ∙ c.if-is_inode.false)

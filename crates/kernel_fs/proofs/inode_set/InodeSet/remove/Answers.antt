use Rattle.std.proofs.Common.{◌∙◌, ap, sym}
use Rattle.world_invariant.specs.LeaseSteps.{without}
use Rattle.kernel_fs.specs.Inodes.{has}
use Rattle.kernel_fs.proofs.Rows.{has_cleared, without_none, inode_is}
use Rattle.kernel_fs.proofs.inode_set.InodeSet.remove.Goals as goal

pub returns-then-not-is_inode : goal.returns-then-not-is_inode
returns-then-not-is_inode c = without_none c.args.self.now c.args.inode (sym c.is_inode.ensures ∙ c.if-not-is_inode.true)

pub returns : goal.returns
returns c = λ i. has_cleared c.self.inside.rows c.args.inode (inode_is c.args.inode (sym c.is_inode.ensures ∙ c.if-not-is_inode.false)) c.self.told i ∙ ap (λ s. without (has s) c.args.inode i) c.self.view_is

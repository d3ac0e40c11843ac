use Rattle.std.proofs.Common.{◌∙◌, ◌&&◌, not, ap, arith}
use Rattle.kernel_fs.specs.Inodes.{has}
use Rattle.kernel_fs.proofs.Rows.{has_less}
use Rattle.kernel_fs.proofs.inode_set.InodeSet.remove_all.Goals as goal

pub returns : goal.returns
returns c = λ i. has_less c.self.inside.rows c.gone.inside.rows c.rows.self-inside.rows (λ r low. c.gone.invariant r) (λ r low. (c.rows.invariant r).0 (omega (arith, low, c.rows-test.false))) i
    ∙ ap (λ s. has s i && not (has c.gone.inside.rows i)) c.self.view_is ∙ ap (λ s. has c.args.self.now i && not (has s i)) c.gone.view_is

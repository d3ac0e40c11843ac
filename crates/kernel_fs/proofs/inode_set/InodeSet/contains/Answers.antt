use Rattle.std.proofs.Common.{◌∙◌, ◌-◌, ◌/◌, ◌%◌, ap, sym, nat_eq, get_or}
use Rattle.std.proofs.lemmas.Nat.Bits.{shr_and_one}
use Rattle.kernel_fs.specs.Inodes.{has}
use Rattle.kernel_fs.proofs.Rows.{has_at, has_none, inode_is}
use Rattle.kernel_fs.proofs.inode_set.InodeSet.contains.Goals as goal

pub returns-then-not-is_inode : goal.returns-then-not-is_inode
returns-then-not-is_inode c = sym (has_none c.args.self.now c.args.inode (sym c.is_inode.ensures ∙ c.if-not-is_inode.true))

pub returns : goal.returns
returns c = ap (λ n. nat_eq n 1) (shr_and_one (get_or c.self.inside.rows ((c.args.inode - 1) / 64) 0) ((c.args.inode - 1) % 64)) ∙ sym (has_at c.self.inside.rows c.args.inode (inode_is c.args.inode (sym c.is_inode.ensures ∙ c.if-not-is_inode.false))) ∙ ap (λ s. has s c.args.inode) c.self.view_is

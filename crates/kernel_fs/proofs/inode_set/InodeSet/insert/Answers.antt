use Rattle.std.proofs.Common.{◌-◌, ◌*◌, ◌/◌, ◌%◌, ◌^◌, ap, ◌∙◌, get_or, arith}
use Rattle.std.proofs.lemmas.Nat.{or_lt}
use Rattle.world_invariant.specs.LeaseSteps.{also}
use Rattle.kernel_fs.specs.Inodes.{has}
use Rattle.kernel_fs.proofs.Rows.{has_set, fits_set, row_within}
use Rattle.kernel_fs.proofs.inode_set.InodeSet.insert.Goals as goal

pub invariant_of-self : goal.invariant_of-self
invariant_of-self c =
    fits_set c.self.inside.rows ((c.args.inode - 1) / 64) _ (let row : _ = row_within c.args.inode c.requires in omega (arith, row, c.self.told))
    (or_lt 64 (get_or c.self.inside.rows ((c.args.inode - 1) / 64) 0) (1 * 2 ^ ((c.args.inode - 1) % 64) % 2 ^ 64) (c.self.invariant ((c.args.inode - 1) / 64)) (omega arith))
    c.self.invariant

pub returns : goal.returns
returns c = λ i. has_set c.self.inside.rows c.args.inode c.requires c.self.told i ∙ ap (λ s. also (has s) c.args.inode i) c.self.view_is

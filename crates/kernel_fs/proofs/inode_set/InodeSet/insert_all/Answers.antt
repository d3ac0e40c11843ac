use Rattle.std.proofs.Common.{◌∙◌, ◌||◌, ◌<◌, ◌^◌, ap, arith, get_or, subst, sym}
use Rattle.std.proofs.lemmas.Nat.{or_lt}
use Rattle.std.proofs.Math.Decide.{dec_le}
use Rattle.kernel_fs.specs.Inodes.{has}
use Rattle.kernel_fs.proofs.Rows.{has_either}
use Rattle.kernel_fs.proofs.inode_set.InodeSet.insert_all.Goals as goal

pub invariant_of-self : goal.invariant_of-self
invariant_of-self c = λ r. elim (dec_le c.rows.row r) [
  | yes after ↦ subst (λ n. n < 2 ^ 64) (sym ((c.rows.invariant r).1 after)) (c.self.invariant r)
  | no before ↦ subst (λ n. n < 2 ^ 64) (sym ((c.rows.invariant r).0 (omega (arith, before)))) (or_lt 64 (get_or c.self.inside.rows r 0) (get_or c.more.inside.rows r 0) (c.self.invariant r) (c.more.invariant r))
]

pub returns : goal.returns
returns c = λ i. has_either c.self.inside.rows c.more.inside.rows c.rows.self-inside.rows (λ r low. (c.rows.invariant r).0 (omega (arith, low, c.rows-test.false))) i
    ∙ ap (λ s. has s i || has c.more.inside.rows i) c.self.view_is ∙ ap (λ s. has c.args.self.now i || has s i) c.more.view_is

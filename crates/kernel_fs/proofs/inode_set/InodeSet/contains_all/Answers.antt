use Rattle.std.proofs.Common.{◌∙◌, refl, ap, arith, sym}
use Rattle.std.proofs.lemmas.Bool.{false≢true}
use Rattle.kernel_fs.specs.Inodes.{has}
use Rattle.kernel_fs.proofs.Rows.{lacks_one, lacks_none}
use Rattle.kernel_fs.proofs.inode_set.InodeSet.contains_all.Goals as goal

pub returns-then-some-row-ne0 : goal.returns-then-some-row-ne0
returns-then-some-row-ne0 c = (
  λ e. absurd (false≢true e),
  λ all. absurd (lacks_one c.some.inside.rows c.self.inside.rows c.rows.row c.rows-test.true (c.some.invariant c.rows.row) (c.self.invariant c.rows.row)
      (λ e. omega (arith, e, c.if-some-row-ne0.true))
      (λ i e. ap (λ s. has s i) c.self.view_is ∙ all i (sym (ap (λ s. has s i) c.some.view_is) ∙ e))),
)

pub returns : goal.returns
returns c = (
  λ e i is. sym (ap (λ s. has s i) c.self.view_is)
      ∙ lacks_none c.some.inside.rows c.self.inside.rows (λ r low. c.self.invariant r) (λ r low. c.rows.invariant r (omega (arith, low, c.rows-test.false))) i (ap (λ s. has s i) c.some.view_is ∙ is),
  λ all. refl,
)

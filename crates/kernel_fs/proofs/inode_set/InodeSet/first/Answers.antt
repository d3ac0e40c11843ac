use Rattle.std.proofs.Common.{◌≡◌, ℕ, ◌+◌, ◌*◌, ◌<◌, true, false, arith, subst, get_or, w64}
use Rattle.std.specs.Int.{trailing_zeros}
use Rattle.std.proofs.lemmas.Nat.Bits.{bit_at-trailing_zeros}
use Rattle.kernel_fs.specs.Inodes.{IsInode, has}
use Rattle.kernel_fs.proofs.Rows.{first_set, has_zero}
use Rattle.kernel_fs.proofs.inode_set.InodeSet.first.Goals as goal

pub returns-then-bits-ne0-clause-first : goal.returns-then-bits-ne0-clause-first
returns-then-bits-ne0-clause-first c =
    let found : _ = bit_at-trailing_zeros w64 (get_or c.self.inside.rows c.rows.row 0) (omega (arith, c.if-bits-ne0.true)) (c.self.invariant c.rows.row) in
    subst (λ s. IsInode (c.rows.row * 64 + trailing_zeros w64 (get_or c.self.inside.rows c.rows.row 0) + 1) × (has s (c.rows.row * 64 + trailing_zeros w64 (get_or c.self.inside.rows c.rows.row 0) + 1) ≡ true) × ((j : ℕ) → j < c.rows.row * 64 + trailing_zeros w64 (get_or c.self.inside.rows c.rows.row 0) + 1 → has s j ≡ false)) c.self.view_is
    (first_set c.self.inside.rows c.rows.row c.rows-test.true (trailing_zeros w64 (get_or c.self.inside.rows c.rows.row 0)) found.0 found.1 found.2 c.rows.invariant)

pub returns-clause-none : goal.returns-clause-none
returns-clause-none c = λ e. subst (λ s. (j : ℕ) → has s j ≡ false) c.self.view_is (has_zero c.self.inside.rows (λ r low. c.rows.invariant r (omega (arith, low, c.rows-test.false))))

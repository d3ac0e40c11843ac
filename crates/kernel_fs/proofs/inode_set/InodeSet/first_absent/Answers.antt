use Rattle.std.proofs.Common.{◌≡◌, ℕ, ◌+◌, ◌*◌, ◌<◌, true, false, arith, subst, get_or, w64, sym}
use Rattle.std.specs.Int.{trailing_ones}
use Rattle.std.proofs.lemmas.Nat.Bits.{bit_at-trailing_ones}
use Rattle.kernel_fs.specs.Inodes.{IsInode, has}
use Rattle.kernel_fs.proofs.Rows.{first_clear, has_ones}
use Rattle.kernel_fs.proofs.inode_set.InodeSet.first_absent.Goals as goal

pub returns-then-bits-clause-first : goal.returns-then-bits-clause-first
returns-then-bits-clause-first c =
    let is : c.trailing_ones.result ≡ trailing_ones w64 (get_or c.self.inside.rows c.rows.row 0) = c.trailing_ones.ensures in
    let fits : _ = c.self.invariant c.rows.row in
    let found : _ = bit_at-trailing_ones w64 (get_or c.self.inside.rows c.rows.row 0) (omega (arith, fits, c.if-bits.true)) in
    subst (λ t. (IsInode (c.rows.row * 64 + t + 1)) × (has c.args.self.now (c.rows.row * 64 + t + 1) ≡ false) × ((j : ℕ) → IsInode j → j < c.rows.row * 64 + t + 1 → has c.args.self.now j ≡ true)) (sym is)
    (subst (λ s. IsInode (c.rows.row * 64 + trailing_ones w64 (get_or c.self.inside.rows c.rows.row 0) + 1) × (has s (c.rows.row * 64 + trailing_ones w64 (get_or c.self.inside.rows c.rows.row 0) + 1) ≡ false) × ((j : ℕ) → IsInode j → j < c.rows.row * 64 + trailing_ones w64 (get_or c.self.inside.rows c.rows.row 0) + 1 → has s j ≡ true)) c.self.view_is
    (first_clear c.self.inside.rows c.rows.row c.rows-test.true (trailing_ones w64 (get_or c.self.inside.rows c.rows.row 0)) found.0 found.1 found.2 c.rows.invariant))

pub returns-clause-none : goal.returns-clause-none
returns-clause-none c = λ e. subst (λ s. (j : ℕ) → IsInode j → has s j ≡ true) c.self.view_is (has_ones c.self.inside.rows (λ r low. c.rows.invariant r (omega (arith, low, c.rows-test.false))))

use Rattle.std.proofs.Common.{◌≡◌, ℕ, ◌<◌, ◌≤◌, get_or, bit_and, w64}
use Rattle.std.specs.Int.{bit_not}
use Rattle.kernel_fs.proofs.inode_set.InodeSet.remove_all.Given as goal

abbrev pub invariant-rows : goal.invariant-rows
invariant-rows l = (r : ℕ) → (r < l.row → get_or l.self-inside.rows r 0 ≡ bit_and (get_or l.initial.self-inside.rows r 0) (bit_not w64 (get_or l.gone-inside.rows r 0))) × (l.row ≤ r → get_or l.self-inside.rows r 0 ≡ get_or l.initial.self-inside.rows r 0)

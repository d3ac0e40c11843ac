use Rattle.std.proofs.Common.{◌≡◌, ℕ, ◌<◌, ◌≤◌, get_or}
use Rattle.std.specs.Prelude.{bit_or}
use Rattle.kernel_fs.proofs.inode_set.InodeSet.insert_all.Given as goal

abbrev pub invariant-rows : goal.invariant-rows
invariant-rows l = (r : ℕ) → (r < l.row → get_or l.self-inside.rows r 0 ≡ bit_or (get_or l.initial.self-inside.rows r 0) (get_or l.more-inside.rows r 0)) × (l.row ≤ r → get_or l.self-inside.rows r 0 ≡ get_or l.initial.self-inside.rows r 0)

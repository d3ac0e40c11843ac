use Rattle.std.proofs.Common.{◌^◌, ◌-◌, ◌≡◌, ℕ, ◌<◌, get_or}
use Rattle.kernel_fs.proofs.inode_set.InodeSet.first_absent.Given as goal

abbrev pub invariant-rows : goal.invariant-rows
invariant-rows l = (r : ℕ) → r < l.row → get_or l.self-inside.rows r 0 ≡ 2 ^ 64 - 1

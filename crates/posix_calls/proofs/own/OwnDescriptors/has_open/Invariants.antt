use Rattle.std.proofs.Common.{◌≡◌, ◌-◌, false}
use Rattle.posix_calls.specs.Tree.{any_up_to, refers_to}
use Rattle.posix_calls.specs.Own.{own_of}
use Rattle.posix_calls.proofs.own.OwnDescriptors.has_open.Given as goal

abbrev pub invariant-loop-number : goal.invariant-loop-number
invariant-loop-number l = any_up_to l.number (λ n. refers_to l.inode (own_of l.self (n - 1))) ≡ false

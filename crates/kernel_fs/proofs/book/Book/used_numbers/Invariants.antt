use Rattle.std.proofs.Common.{◌≡◌, ℕ}
use Rattle.posix_calls.specs.Tree.{any_up_to}
use Rattle.kernel_fs.specs.Book.{numbers_of}
use Rattle.kernel_fs.specs.Inodes.{has}
use Rattle.kernel_fs.proofs.book.Book.used_numbers.Given as goal

abbrev pub invariant-clients : goal.invariant-clients
invariant-clients l = (i : ℕ) → has l.taken i ≡ any_up_to l.account-index (λ c. numbers_of l.fn.self c i)

use Rattle.std.proofs.Common.{◌≡◌, false}
use Rattle.posix_calls.specs.Tree.{any_up_to}
use Rattle.kernel_fs.specs.Book.{pins_of}
use Rattle.kernel_fs.proofs.book.Book.is_pinned.Given as goal

abbrev pub invariant-clients : goal.invariant-clients
invariant-clients l = any_up_to l.account-index (λ c. pins_of l.fn.self c l.fn.inode) ≡ false

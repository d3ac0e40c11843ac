-- The kernel, as its callers see it.
use Rattle.migrator.specs.batch_journal.View.{JournalView}
use Rattle.kernel_fs.specs.Book.{Accounts}

pub record KernelView (M : Type 0) : Type 0 where
  -- the shared media, by whose blocks there are a graph and marks, and whether a device has failed
  pub area : JournalView M
  -- what each client was given, and how many of its records are waiting
  pub book : Accounts
  -- the shared media as they were when the kernel was opened over them
  pub opening : JournalView M

use Rattle.kernel_fs.proofs.Machines.{grant_runs, take_back_runs}
use Rattle.kernel_fs.proofs.book_laws.grants_keep_the_book.Goals as goal

pub returns-clause-granted : goal.returns-clause-granted
returns-clause-granted c = λ m k units numbers runs is_c room free. grant_runs m runs k is_c units numbers room free

pub returns-clause-taken_back : goal.returns-clause-taken_back
returns-clause-taken_back c = λ m k units numbers runs is_c. take_back_runs m runs k is_c units numbers

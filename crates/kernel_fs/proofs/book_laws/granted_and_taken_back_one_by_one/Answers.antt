use Rattle.kernel_fs.proofs.OneByOne.{granted, taken_back, granted_set, taken_back_set}
use Rattle.kernel_fs.proofs.book_laws.granted_and_taken_back_one_by_one.Goals as goal

pub returns-clause-granted : goal.returns-clause-granted
returns-clause-granted c = λ m k units is. granted m k units is

pub returns-clause-taken_back : goal.returns-clause-taken_back
returns-clause-taken_back c = λ m k units is. taken_back m k units is

pub returns-clause-granted_set : goal.returns-clause-granted_set
returns-clause-granted_set c = λ m k units rows. granted_set m k units rows

pub returns-clause-taken_back_set : goal.returns-clause-taken_back_set
returns-clause-taken_back_set c = λ m k units rows. taken_back_set m k units rows

use Rattle.std.proofs.Common.{arith}
use Rattle.kernel_fs.proofs.MarksGo.{accepted_marks, digested_marks, undigested}
use Rattle.kernel_fs.proofs.book_laws.marks_go_with_the_machine.Goals as goal

pub returns-clause-opened : goal.returns-clause-opened
returns-clause-opened c = λ g capacity done marks none k is. let first = none k is in record { counted = omega (arith, first); between = λ e. first }

pub returns-clause-accepted : goal.returns-clause-accepted
returns-clause-accepted c = accepted_marks

pub returns-clause-digested : goal.returns-clause-digested
returns-clause-digested c = digested_marks

pub returns-clause-undigested : goal.returns-clause-undigested
returns-clause-undigested c = undigested

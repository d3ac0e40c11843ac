use Rattle.layout.proofs.MarksLaws.{marks_of_again}
use Rattle.layout.proofs.laws.marks_are_read.Goals as goal

pub returns : goal.returns
returns c = marks_of_again

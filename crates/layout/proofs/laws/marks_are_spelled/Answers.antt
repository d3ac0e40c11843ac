use Rattle.layout.proofs.MarksLaws.{marks_of_takes}
use Rattle.layout.proofs.laws.marks_are_spelled.Goals as goal

pub returns : goal.returns
returns c = marks_of_takes

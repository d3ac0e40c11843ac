use Rattle.layout.proofs.ExtentLaws.{extents_of_again}
use Rattle.layout.proofs.laws.extents_are_read.Goals as goal

pub returns : goal.returns
returns c = extents_of_again

use Rattle.layout.proofs.ExtentLaws.{extents_of_takes}
use Rattle.layout.proofs.laws.extents_are_spelled.Goals as goal

pub returns : goal.returns
returns c = extents_of_takes

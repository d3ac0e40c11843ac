use Rattle.layout.proofs.Supers.{super_of_takes}
use Rattle.layout.proofs.laws.super_is_spelled.Goals as goal

pub returns : goal.returns
returns c = super_of_takes

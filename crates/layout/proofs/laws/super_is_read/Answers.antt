use Rattle.layout.proofs.Supers.{super_of_again}
use Rattle.layout.proofs.laws.super_is_read.Goals as goal

pub returns : goal.returns
returns c = super_of_again

use Rattle.area_reader.proofs.Costs.{units_told}
use Rattle.area_reader.proofs.units.slots_give_the_units.Goals as goal

pub returns : goal.returns
returns = λ c. units_told

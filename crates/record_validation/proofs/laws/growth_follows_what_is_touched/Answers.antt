use Rattle.record_validation.proofs.Rises.{growth_told, charge_told}
use Rattle.record_validation.proofs.laws.growth_follows_what_is_touched.Goals as goal

pub returns-clause-growth : goal.returns-clause-growth
returns-clause-growth c = growth_told

pub returns-clause-charge : goal.returns-clause-charge
returns-clause-charge c = charge_told

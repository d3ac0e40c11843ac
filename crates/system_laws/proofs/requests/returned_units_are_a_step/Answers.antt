use Rattle.system_laws.proofs.Refills.{given_back}
use Rattle.system_laws.proofs.WorldFacts.{world_facts}
use Rattle.system_laws.proofs.requests.returned_units_are_a_step.Goals as goal

pub returns : goal.returns
returns g c = λ v number o new begun turn makes.
    given_back g.M.Media (world_facts g.M.Media g.met.M.Media.seen_now g.met.M.Media.sized) v number o new begun turn makes

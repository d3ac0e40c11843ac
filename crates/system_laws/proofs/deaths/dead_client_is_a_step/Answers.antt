use Rattle.system_laws.proofs.DeadClients.{died}
use Rattle.system_laws.proofs.WorldFacts.{world_facts}
use Rattle.system_laws.proofs.deaths.dead_client_is_a_step.Goals as goal

pub returns : goal.returns
returns g c = λ v number o new begun turn makes.
    died g.M.Media (world_facts g.M.Media g.met.M.Media.seen_now g.met.M.Media.sized) v number o new begun turn makes

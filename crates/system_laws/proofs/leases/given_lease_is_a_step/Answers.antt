use Rattle.system_laws.proofs.LeasesGiven.{given_back}
use Rattle.system_laws.proofs.WorldFacts.{world_facts}
use Rattle.system_laws.proofs.leases.given_lease_is_a_step.Goals as goal

pub returns : goal.returns
returns g c = λ v number inode o new begun turn makes.
    given_back g.M.Media (world_facts g.M.Media g.met.M.Media.seen_now g.met.M.Media.sized) v number inode o new begun turn makes

use Rattle.system_laws.proofs.LeasesTaken.{asked_back}
use Rattle.system_laws.proofs.WorldFacts.{world_facts}
use Rattle.system_laws.proofs.leases.asked_lease_is_a_step.Goals as goal

pub returns : goal.returns
returns g c = λ v number inode of o new begun turn makes.
    asked_back g.M.Media (world_facts g.M.Media g.met.M.Media.seen_now g.met.M.Media.sized) v number inode of o new begun turn makes

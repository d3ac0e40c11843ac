use Rattle.system_laws.proofs.LeasesTaken.{leased}
use Rattle.system_laws.proofs.WorldFacts.{world_facts}
use Rattle.system_laws.proofs.leases.taken_lease_is_a_step.Goals as goal

pub returns : goal.returns
returns g c = λ v number inode mode o new begun turn makes met.
    leased g.M.Media (world_facts g.M.Media g.met.M.Media.seen_now g.met.M.Media.sized) v number inode mode o new begun turn makes met

use Rattle.system_laws.proofs.LeasesTaken.{raised}
use Rattle.system_laws.proofs.WorldFacts.{world_facts}
use Rattle.system_laws.proofs.leases.raised_lease_is_a_step.Goals as goal

pub returns : goal.returns
returns g c = λ v number inode o new begun turn makes met.
    raised g.M.Media (world_facts g.M.Media g.met.M.Media.seen_now g.met.M.Media.sized) v number inode o new begun turn makes met

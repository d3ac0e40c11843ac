use Rattle.system_laws.proofs.FetchedCopies.{fetched}
use Rattle.system_laws.proofs.WorldFacts.{world_facts}
use Rattle.system_laws.proofs.requests.fetched_copy_is_a_step.Goals as goal

pub returns : goal.returns
returns g c = λ v number inode o new begun turn makes settled.
    fetched g.M.Media (world_facts g.M.Media g.met.M.Media.seen_now g.met.M.Media.sized) v number inode o new begun turn makes settled

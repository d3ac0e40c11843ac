use Rattle.system_laws.proofs.PinnedInodes.{unpinned}
use Rattle.system_laws.proofs.WorldFacts.{world_facts}
use Rattle.system_laws.proofs.requests.dropped_pin_is_a_step.Goals as goal

pub returns : goal.returns
returns g c = λ v number inode o new begun turn makes.
    unpinned g.M.Media (world_facts g.M.Media g.met.M.Media.seen_now g.met.M.Media.sized) v number inode o new begun turn makes

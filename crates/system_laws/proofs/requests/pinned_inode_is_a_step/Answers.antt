use Rattle.system_laws.proofs.PinnedInodes.{pinned}
use Rattle.system_laws.proofs.WorldFacts.{world_facts}
use Rattle.system_laws.proofs.requests.pinned_inode_is_a_step.Goals as goal

pub returns : goal.returns
returns g c = λ v number inode o new begun turn makes.
    pinned g.M.Media (world_facts g.M.Media g.met.M.Media.seen_now g.met.M.Media.sized) v number inode o new begun turn makes

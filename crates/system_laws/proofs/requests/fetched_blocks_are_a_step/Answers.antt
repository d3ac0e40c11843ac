use Rattle.system_laws.proofs.FetchedBlocks.{blocks_fetched}
use Rattle.system_laws.proofs.WorldFacts.{world_facts}
use Rattle.system_laws.proofs.requests.fetched_blocks_are_a_step.Goals as goal

pub returns : goal.returns
returns g c = λ v number inode first count o new begun turn makes settled.
    blocks_fetched g.M.Media (world_facts g.M.Media g.met.M.Media.seen_now g.met.M.Media.sized) v number inode first count o new begun turn makes settled

use Rattle.system_laws.proofs.SealedRegions.{sealed}
use Rattle.system_laws.proofs.WorldFacts.{world_facts}
use Rattle.system_laws.proofs.regions.sealed_region_is_a_step.Goals as goal

pub returns : goal.returns
returns g c = λ v number o new begun turn makes.
    sealed g.M.Media (world_facts g.M.Media g.met.M.Media.seen_now g.met.M.Media.sized) v number o new begun turn makes

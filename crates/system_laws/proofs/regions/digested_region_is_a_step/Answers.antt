use Rattle.system_laws.proofs.DigestedRegions.{digested, never_bad}
use Rattle.system_laws.proofs.WorldFacts.{world_facts}
use Rattle.system_laws.proofs.regions.digested_region_is_a_step.Goals as goal

pub returns-clause-step : goal.returns-clause-step
returns-clause-step g c = λ v number o new begun turn makes.
    digested g.M.Media g.met.M.Media.sized (world_facts g.M.Media g.met.M.Media.seen_now g.met.M.Media.sized) v number o new begun turn makes

pub returns-clause-never_bad : goal.returns-clause-never_bad
returns-clause-never_bad g c = λ v number o new begun turn makes.
    never_bad g.M.Media g.met.M.Media.sized (world_facts g.M.Media g.met.M.Media.seen_now g.met.M.Media.sized) v number o new begun turn makes

use Rattle.system_laws.proofs.FailedKernel.{idle_step}
use Rattle.system_laws.proofs.WorldFacts.{world_facts}
use Rattle.system_laws.proofs.idle.idle_event_is_a_step.Goals as goal

pub returns : goal.returns
returns g c = λ v event new begun same.
    idle_step g.M.Media (world_facts g.M.Media g.met.M.Media.seen_now g.met.M.Media.sized) v new event begun same

use Rattle.system_laws.proofs.SteppedCalls.{stepped}
use Rattle.system_laws.proofs.WorldFacts.{world_facts}
use Rattle.system_laws.proofs.device_calls.stepped_call_is_a_step.Goals as goal

pub returns : goal.returns
returns g c = λ v number o new begun turn makes.
    stepped g.M.Media g.met.M.Media.seen_now g.met.M.Media.sized (world_facts g.M.Media g.met.M.Media.seen_now g.met.M.Media.sized) v number o new begun turn makes

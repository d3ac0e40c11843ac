use Rattle.system_laws.proofs.DeniedCalls.{denied}
use Rattle.system_laws.proofs.WorldFacts.{world_facts}
use Rattle.system_laws.proofs.denials.denied_call_is_a_step.Goals as goal

pub returns : goal.returns
returns g c = λ v number call why o new begun turn makes.
    denied g.M.Media (world_facts g.M.Media g.met.M.Media.seen_now g.met.M.Media.sized) v number call why o new begun turn makes

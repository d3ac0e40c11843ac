use Rattle.system_laws.proofs.StartedCalls.{started}
use Rattle.system_laws.proofs.WorldFacts.{world_facts}
use Rattle.system_laws.proofs.starts.started_call_is_a_step.Goals as goal

pub returns : goal.returns
returns g c = λ v number call o new begun turn makes.
    started g.M.Media (world_facts g.M.Media g.met.M.Media.seen_now g.met.M.Media.sized) c.answered_start_is_a_step.ensures.ready c.begun_record_is_a_step.ensures.ready v number call o new begun turn makes

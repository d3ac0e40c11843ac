use Rattle.system_laws.proofs.WorldFacts.{world_facts}
use Rattle.system_laws.proofs.idle.stop_between_events_is_recovered.Goals as goal

pub returns : goal.returns
returns g c = λ v stands leaves content left.
    (world_facts g.M.Media g.met.M.Media.seen_now g.met.M.Media.sized).stops v stands leaves content left

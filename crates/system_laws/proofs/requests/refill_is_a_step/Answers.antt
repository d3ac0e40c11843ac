use Rattle.system_laws.proofs.Refills.{refilled}
use Rattle.system_laws.proofs.WorldFacts.{world_facts}
use Rattle.system_laws.proofs.requests.refill_is_a_step.Goals as goal

pub returns : goal.returns
returns g c = λ v number units inodes o new begun turn makes.
    refilled g.M.Media (world_facts g.M.Media g.met.M.Media.seen_now g.met.M.Media.sized) v number units inodes o new begun turn makes

use Rattle.system_laws.proofs.ReclaimedFiles.{reclaimed}
use Rattle.system_laws.proofs.WorldFacts.{world_facts}
use Rattle.system_laws.proofs.media_moves.reclaimed_file_is_a_step.Goals as goal

pub returns : goal.returns
returns g c = λ v inode o new begun turn makes.
    reclaimed g.M.Media (world_facts g.M.Media g.met.M.Media.seen_now g.met.M.Media.sized) g.met.M.Media.sized g.met.M.Media.seen_now v inode o new begun turn makes.0 makes.1

use Rattle.system_laws.proofs.MigratedRuns.{migrated}
use Rattle.system_laws.proofs.WorldFacts.{world_facts}
use Rattle.system_laws.proofs.media_moves.migrated_run_is_a_step.Goals as goal

pub returns : goal.returns
returns g c = λ v inode first count to o new begun turn makes.
    migrated g.M.Media (world_facts g.M.Media g.met.M.Media.seen_now g.met.M.Media.sized) g.met.M.Media.sized g.met.M.Media.seen_now v inode first count to o new begun turn makes.0 makes.1

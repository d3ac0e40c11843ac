use Rattle.area_commit.proofs.Departed.{fenced_loose}
use Rattle.area_commit.proofs.pool_laws.fenced_blocks_stay_loose.Goals as goal

pub returns : goal.returns
returns c = fenced_loose

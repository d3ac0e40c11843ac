use Rattle.area_commit.proofs.Exchanged.{lists_free, runs_free}
use Rattle.area_commit.proofs.pool_change.pools_after_change.Goals as goal

pub returns : goal.returns
returns c = record { lists = lists_free; runs = runs_free }

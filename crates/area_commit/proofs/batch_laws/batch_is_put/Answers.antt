use Rattle.area_commit.proofs.BatchPut.{is_put}
use Rattle.area_commit.proofs.batch_laws.batch_is_put.Goals as goal

pub returns : goal.returns
returns c = is_put

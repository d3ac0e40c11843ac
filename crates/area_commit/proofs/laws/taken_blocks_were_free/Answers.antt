use Rattle.area_commit.proofs.Returned.{were_free}
use Rattle.area_commit.proofs.laws.taken_blocks_were_free.Goals as goal

pub returns : goal.returns
returns c = were_free

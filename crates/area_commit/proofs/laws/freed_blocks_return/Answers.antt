use Rattle.area_commit.proofs.Returned.{nodes_given, data_given}
use Rattle.area_commit.proofs.laws.freed_blocks_return.Goals as goal

pub returns : goal.returns
returns c = record { nodes = nodes_given; per_tier = λ g s x m plan left t planned ready. data_given g s x m plan left planned ready t }

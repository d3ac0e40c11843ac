use Rattle.area_commit.proofs.Joined.{used_apart, apart_join}
use Rattle.area_commit.proofs.laws.runs_lie_apart.Goals as goal

pub returns : goal.returns
returns c = record { used = used_apart; joined = apart_join }

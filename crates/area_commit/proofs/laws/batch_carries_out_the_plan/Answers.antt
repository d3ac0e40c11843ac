use Rattle.area_commit.proofs.Put.{carried_out}
use Rattle.area_commit.proofs.laws.batch_carries_out_the_plan.Goals as goal

pub returns : goal.returns
returns c = λ g s x m plan mid new planned loose holds put. carried_out g s x m plan planned mid new loose put holds

use Rattle.change_plan.proofs.NextNodes.{next_free}
use Rattle.change_plan.proofs.files.next_nodes_were_free.Goals as goal

pub returns : goal.returns
returns c g s left taken count has = next_free g s left taken has count

use Rattle.change_plan.proofs.NoNode.{gone_part}
use Rattle.change_plan.proofs.part_laws.gone_inode_is_a_part.Goals as goal

pub returns : goal.returns
returns c = gone_part

use Rattle.inode_plan.proofs.Stores.{file_is_fit}
use Rattle.inode_plan.proofs.file_laws.planned_file_is_fit.Goals as goal

pub returns : goal.returns
returns c = file_is_fit

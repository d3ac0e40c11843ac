use Rattle.inode_plan.proofs.Standing.{fit, listed, written}
use Rattle.inode_plan.proofs.directory_laws.planned_directory_is_written.Goals as goal

pub returns : goal.returns
returns c = record {
  fit = λ g s c i touch start x spares old new plan p. fit g s c i touch start x spares old new plan p;
  listed = λ g s c i touch start x spares old new plan p. listed g s c i touch start x spares old new plan p;
  written = λ g s c i touch start x spares old new plan p. written g s c i touch start x spares old new plan p;
}

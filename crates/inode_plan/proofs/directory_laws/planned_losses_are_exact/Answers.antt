use Rattle.inode_plan.proofs.Standing.{exact, had_nodes, each, given}
use Rattle.inode_plan.proofs.directory_laws.planned_losses_are_exact.Goals as goal

pub returns : goal.returns
returns c = record {
  exact = λ g s c i touch start x spares old new plan p. exact g s c i touch start x spares old new plan p;
  had = λ g s c i touch start x spares old new plan p. had_nodes g s c i touch start x spares old new plan p;
  each = λ g s c i touch start x spares old new plan p. each g s c i touch start x spares old new plan p;
  given = λ g s c i touch start x spares old new plan pool p. given g s c i touch start x spares old new plan p pool;
}

use Rattle.inode_plan.proofs.Standing.{kept, once, all, own_images, imaged, nodes}
use Rattle.inode_plan.proofs.directory_laws.planned_blocks_are_kept_or_spare.Goals as goal

pub returns : goal.returns
returns c = record {
  kept = λ g s c i touch start x spares old new plan p. kept g s c i touch start x spares old new plan p;
  once = λ g s c i touch start x spares old new plan p. once g s c i touch start x spares old new plan p;
  all = λ g s c i touch start x spares old new plan p. all g s c i touch start x spares old new plan p;
  images = λ g s c i touch start x spares old new plan p. own_images g s c i touch start x spares old new plan p;
  imaged = λ g s c i touch start x spares old new plan p. imaged g s c i touch start x spares old new plan p;
  nodes = λ g s c i touch start x spares old new plan p. nodes g s c i touch start x spares old new plan p;
}

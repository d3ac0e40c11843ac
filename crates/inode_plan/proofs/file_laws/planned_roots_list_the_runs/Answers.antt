use Rattle.inode_plan.proofs.Listed.{all_listed, root_uses, all_used}
use Rattle.inode_plan.proofs.Vacant.{roots_differ, roots_lost}
use Rattle.inode_plan.proofs.file_laws.planned_roots_list_the_runs.Goals as goal

pub returns : goal.returns
returns c = record { listed = all_listed; uses = root_uses; all = all_used; once = roots_differ; left = roots_lost }

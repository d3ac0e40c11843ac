use Rattle.inode_plan.proofs.Gone.{gone_exact, gone_given}
use Rattle.inode_plan.proofs.directory_laws.gone_directory_gives_all.Goals as goal

pub returns : goal.returns
returns c = record { exact = gone_exact; given = gone_given }

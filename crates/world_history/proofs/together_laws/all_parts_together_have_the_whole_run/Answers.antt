use Rattle.world_history.proofs.Whole.{all_consistent, whole_run}
use Rattle.world_history.proofs.together_laws.all_parts_together_have_the_whole_run.Goals as goal

pub returns-clause-run : goal.returns-clause-run
returns-clause-run r s ks ms coherent all = whole_run s ks ms all coherent

pub returns-clause-consistent : goal.returns-clause-consistent
returns-clause-consistent r s ks ms consistent all = all_consistent s ks ms all consistent

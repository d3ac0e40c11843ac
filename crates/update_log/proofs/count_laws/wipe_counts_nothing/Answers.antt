use Rattle.update_log.proofs.Counts.{other_counts_none, wiped_counts_none, wipe_keeps}
use Rattle.update_log.proofs.count_laws.wipe_counts_nothing.Goals as goal

pub returns-clause-other : goal.returns-clause-other
returns-clause-other c = other_counts_none

pub returns-clause-wiped : goal.returns-clause-wiped
returns-clause-wiped c = wiped_counts_none

pub returns-clause-both : goal.returns-clause-both
returns-clause-both c = wipe_keeps

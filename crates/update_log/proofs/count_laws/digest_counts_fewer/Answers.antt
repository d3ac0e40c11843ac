use Rattle.update_log.proofs.Counts.{fewer_within, generation_done}
use Rattle.update_log.proofs.count_laws.digest_counts_fewer.Goals as goal

pub returns-clause-within : goal.returns-clause-within
returns-clause-within c = fewer_within

pub returns-clause-finished : goal.returns-clause-finished
returns-clause-finished c = generation_done

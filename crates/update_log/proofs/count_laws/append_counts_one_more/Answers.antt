use Rattle.update_log.proofs.Counts.{append_next, append_own}
use Rattle.update_log.proofs.count_laws.append_counts_one_more.Goals as goal

pub returns-clause-next : goal.returns-clause-next
returns-clause-next c g done regions content begun small = append_next g done regions content begun small

pub returns-clause-own : goal.returns-clause-own
returns-clause-own c g done regions content begun small = append_own g done regions content begun small

use Rattle.record_validation.proofs.Steps.{counts_act, entry_is}
use Rattle.record_validation.proofs.laws.counts_are_of_the_node_after.Goals as goal

pub returns-clause-single : goal.returns-clause-single
returns-clause-single c = counts_act

pub returns-clause-entry : goal.returns-clause-entry
returns-clause-entry c = entry_is

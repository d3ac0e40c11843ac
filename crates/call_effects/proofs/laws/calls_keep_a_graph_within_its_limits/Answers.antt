use Rattle.call_effects.proofs.Limits.{call_within, dropped_within, seen_within, few_stored, numbered}
use Rattle.call_effects.proofs.laws.calls_keep_a_graph_within_its_limits.Goals as goal

pub returns-clause-call : goal.returns-clause-call
returns-clause-call c = call_within

pub returns-clause-dropped : goal.returns-clause-dropped
returns-clause-dropped c = dropped_within

pub returns-clause-seen : goal.returns-clause-seen
returns-clause-seen c = seen_within

pub returns-clause-stored : goal.returns-clause-stored
returns-clause-stored c = few_stored

pub returns-clause-nodes : goal.returns-clause-nodes
returns-clause-nodes c = numbered

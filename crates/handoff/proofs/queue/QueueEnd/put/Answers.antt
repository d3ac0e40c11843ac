use Rattle.handoff.proofs.Steps.{puts, closes}
use Rattle.handoff.proofs.queue.QueueEnd.put.Goals as goal

pub push_as-requires-clause-rule : goal.push_as-requires-clause-rule
push_as-requires-clause-rule g c = (puts _ _ _ _ c.self.invariant.2, closes _ _)

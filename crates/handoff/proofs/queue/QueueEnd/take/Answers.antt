use Rattle.handoff.proofs.Steps.{takes, closes}
use Rattle.handoff.proofs.queue.QueueEnd.take.Goals as goal

pub pop_as-requires-clause-rule : goal.pop_as-requires-clause-rule
pop_as-requires-clause-rule g c = (takes _ _ c.self.invariant.2, closes _ _)

use Rattle.handoff.proofs.Steps.{closes}
use Rattle.handoff.proofs.queue.QueueEnd.learn_line.Goals as goal

pub learn_as-requires-clause-rule : goal.learn_as-requires-clause-rule
learn_as-requires-clause-rule g c = closes _ _

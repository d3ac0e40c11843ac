use Rattle.handoff.proofs.Steps.{closes}
use Rattle.handoff.proofs.queue.QueueEnd.is_empty.Goals as goal

pub is_empty_as-requires-clause-rule : goal.is_empty_as-requires-clause-rule
is_empty_as-requires-clause-rule g c = closes _ _

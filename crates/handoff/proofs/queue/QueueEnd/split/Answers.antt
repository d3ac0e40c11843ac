use Rattle.handoff.proofs.Steps.{forks}
use Rattle.handoff.proofs.queue.QueueEnd.split.Goals as goal

pub another-pass-requires-clause-rule : goal.another-pass-requires-clause-rule
another-pass-requires-clause-rule g c = forks _ _

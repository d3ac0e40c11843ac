use Rattle.handoff.proofs.Steps.{merges}
use Rattle.handoff.proofs.queue.QueueEnd.join.Goals as goal

pub absorb-requires-clause-rule : goal.absorb-requires-clause-rule
absorb-requires-clause-rule g c = merges _ _ _ _

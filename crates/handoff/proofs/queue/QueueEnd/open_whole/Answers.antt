use Rattle.handoff.proofs.Steps.{opens}
use Rattle.handoff.proofs.queue.QueueEnd.open_whole.Goals as goal

pub ruled-requires-clause-rule : goal.ruled-requires-clause-rule
ruled-requires-clause-rule g c = opens _

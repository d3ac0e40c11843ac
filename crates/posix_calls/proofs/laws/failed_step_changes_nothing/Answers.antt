use Rattle.posix_calls.proofs.Steps.{failed_step}
use Rattle.posix_calls.proofs.laws.failed_step_changes_nothing.Goals as goal

pub returns : goal.returns
returns c = failed_step

use Rattle.posix_calls.proofs.Steps.{run_split, run_joined}
use Rattle.posix_calls.proofs.laws.runs_split_anywhere.Goals as goal

pub returns-clause-split : goal.returns-clause-split
returns-clause-split c = run_split

pub returns-clause-joined : goal.returns-clause-joined
returns-clause-joined c = run_joined

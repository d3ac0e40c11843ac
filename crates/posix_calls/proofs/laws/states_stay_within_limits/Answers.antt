use Rattle.posix_calls.proofs.Passing.{step_within}
use Rattle.posix_calls.proofs.Bounds.{opening_within, run_within, settled_within}
use Rattle.posix_calls.proofs.laws.states_stay_within_limits.Goals as goal

pub returns-clause-opening : goal.returns-clause-opening
returns-clause-opening c = opening_within

pub returns-clause-step : goal.returns-clause-step
returns-clause-step c = λ old client call reply after fine within step. step_within old client call reply after fine within step

pub returns-clause-run : goal.returns-clause-run
returns-clause-run c = run_within

pub returns-clause-settled : goal.returns-clause-settled
returns-clause-settled c = settled_within

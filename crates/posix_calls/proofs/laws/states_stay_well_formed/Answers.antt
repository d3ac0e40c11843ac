use Rattle.posix_calls.proofs.Lasting.{step_fine, run_fine}
use Rattle.posix_calls.proofs.Settled.{opening_fine, settled_fine}
use Rattle.posix_calls.proofs.laws.states_stay_well_formed.Goals as goal

pub returns-clause-opening : goal.returns-clause-opening
returns-clause-opening c = opening_fine

pub returns-clause-step : goal.returns-clause-step
returns-clause-step c = λ old client call reply after fine step. step_fine old client call reply after fine step

pub returns-clause-run : goal.returns-clause-run
returns-clause-run c = run_fine

pub returns-clause-settled : goal.returns-clause-settled
returns-clause-settled c = λ s fine. settled_fine s fine

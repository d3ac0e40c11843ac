use Rattle.std.proofs.Common.{refl}
use Rattle.kernel_fs.proofs.MarksGo.{opened_runs}
use Rattle.kernel_fs.proofs.book_laws.opened_machine_runs.Goals as goal

pub returns-clause-runs : goal.returns-clause-runs
returns-clause-runs c = opened_runs

pub returns-clause-idle : goal.returns-clause-idle
returns-clause-idle c = λ g capacity. refl

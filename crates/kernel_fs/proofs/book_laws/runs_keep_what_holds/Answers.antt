use Rattle.kernel_fs.proofs.BookRuns.{run_holds, run_is}
use Rattle.kernel_fs.proofs.book_laws.runs_keep_what_holds.Goals as goal

pub returns-clause-runs : goal.returns-clause-runs
returns-clause-runs c = λ first last es runs leads. run_holds first es last runs leads

pub returns-clause-is : goal.returns-clause-is
returns-clause-is c = λ first last es leads. run_is first es last leads

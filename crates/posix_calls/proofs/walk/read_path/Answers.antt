use Rattle.posix_calls.proofs.Chain.{exits, said_ok, said_err}
use Rattle.posix_calls.proofs.walk.read_path.Goals as goal

pub returns-in_err-read-clause-answer : goal.returns-in_err-read-clause-answer
returns-in_err-read-clause-answer c = λ p. exits c.from_residual.ensures.1 (said_err c.in_err-read.ensures.refused)

pub returns-clause-answer : goal.returns-clause-answer
returns-clause-answer c = λ p. said_ok c.in_ok-read.ensures.names

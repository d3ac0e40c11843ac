use Rattle.posix_calls.proofs.Chain.{exits, gives, bind_gives, bind_stops}
use Rattle.posix_calls.specs.Decide.{close}
use Rattle.posix_calls.proofs.descriptor_calls.close.Goals as goal

pub returns-in_err-inode-clause-answer : goal.returns-in_err-inode-clause-answer
unfolding close
returns-in_err-inode-clause-answer c = λ p. exits c.from_residual.ensures.1 (bind_stops _ (c.in_err-inode.ensures.answer _))

pub returns-clause-answer : goal.returns-clause-answer
unfolding close
returns-clause-answer c = λ p. (bind_gives _ (c.in_ok-inode.ensures.answer _) (gives))

use Rattle.posix_calls.proofs.Chain.{exits, bind_gives, bind_stops}
use Rattle.posix_calls.specs.Decide.{list_path}
use Rattle.posix_calls.proofs.tell_calls.list.Goals as goal

pub returns-in_err-path-clause-answer : goal.returns-in_err-path-clause-answer
unfolding list_path
returns-in_err-path-clause-answer g c = exits c.from_residual.ensures.1 (bind_stops _ (c.in_err-path.ensures.answer _))

pub returns-clause-answer : goal.returns-clause-answer
unfolding list_path
returns-clause-answer g c = bind_gives _ (c.in_ok-path.ensures.answer _) c.list_at.ensures.answer

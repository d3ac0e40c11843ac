use Rattle.posix_calls.proofs.Chain.{exits, bind_gives, bind_stops}
use Rattle.posix_calls.specs.Decide.{exchange}
use Rattle.posix_calls.proofs.Wants.{exit_wants, first_comes, second_comes, name_comes}
use Rattle.posix_calls.proofs.two_path_calls.exchange.Goals as goal

pub returns-in_err-first_path-clause-answer : goal.returns-in_err-first_path-clause-answer
unfolding exchange
returns-in_err-first_path-clause-answer g c = exits c.from_residual.ensures.1 (bind_stops _ (c.in_err-first_path.ensures.answer _))

pub returns-in_err-second_path-clause-answer : goal.returns-in_err-second_path-clause-answer
unfolding exchange
returns-in_err-second_path-clause-answer g c = exits c.from_residual-in_err-second_path.ensures.1 (bind_gives _ (c.in_ok-first_path.ensures.answer _) (bind_stops _ (c.in_err-second_path.ensures.answer _)))

pub returns-clause-answer : goal.returns-clause-answer
unfolding exchange
returns-clause-answer g c = bind_gives _ (c.in_ok-first_path.ensures.answer _) (bind_gives _ (c.in_ok-second_path.ensures.answer _) c.exchange_at.ensures.answer)

pub returns-in_err-first_path-clause-memory : goal.returns-in_err-first_path-clause-memory
returns-in_err-first_path-clause-memory g c = λ want. first_comes c.args.first.now c.args.second.now (c.in_err-first_path.ensures.memory (exit_wants c.from_residual.ensures.1 want))

pub returns-in_err-second_path-clause-memory : goal.returns-in_err-second_path-clause-memory
returns-in_err-second_path-clause-memory g c = λ want. second_comes c.args.first.now c.args.second.now c.in_ok-first_path.ensures.names (c.in_err-second_path.ensures.memory (exit_wants c.from_residual-in_err-second_path.ensures.1 want))

pub returns-clause-memory : goal.returns-clause-memory
returns-clause-memory g c = λ want. first_comes c.args.first.now c.args.second.now (name_comes c.args.first.now _ c.in_ok-first_path.ensures.names (c.exchange_at.ensures.memory want))

use Rattle.posix_calls.proofs.Chain.{exits, bind_gives, bind_stops}
use Rattle.posix_calls.specs.Decide.{rename}
use Rattle.posix_calls.proofs.Wants.{exit_wants, first_comes, second_comes, name_comes}
use Rattle.posix_calls.proofs.two_path_calls.rename.Goals as goal

pub returns-in_err-old_path-clause-answer : goal.returns-in_err-old_path-clause-answer
unfolding rename
returns-in_err-old_path-clause-answer g c = exits c.from_residual.ensures.1 (bind_stops _ (c.in_err-old_path.ensures.answer _))

pub returns-in_err-new_path-clause-answer : goal.returns-in_err-new_path-clause-answer
unfolding rename
returns-in_err-new_path-clause-answer g c = exits c.from_residual-in_err-new_path.ensures.1 (bind_gives _ (c.in_ok-old_path.ensures.answer _) (bind_stops _ (c.in_err-new_path.ensures.answer _)))

pub returns-clause-answer : goal.returns-clause-answer
unfolding rename
returns-clause-answer g c = bind_gives _ (c.in_ok-old_path.ensures.answer _) (bind_gives _ (c.in_ok-new_path.ensures.answer _) c.rename_at.ensures.answer)

pub returns-in_err-old_path-clause-memory : goal.returns-in_err-old_path-clause-memory
returns-in_err-old_path-clause-memory g c = λ want. first_comes c.args.old.now c.args.new.now (c.in_err-old_path.ensures.memory (exit_wants c.from_residual.ensures.1 want))

pub returns-in_err-new_path-clause-memory : goal.returns-in_err-new_path-clause-memory
returns-in_err-new_path-clause-memory g c = λ want. second_comes c.args.old.now c.args.new.now c.in_ok-old_path.ensures.names (c.in_err-new_path.ensures.memory (exit_wants c.from_residual-in_err-new_path.ensures.1 want))

pub returns-clause-memory : goal.returns-clause-memory
returns-clause-memory g c = λ want. first_comes c.args.old.now c.args.new.now (name_comes c.args.old.now _ c.in_ok-old_path.ensures.names (c.rename_at.ensures.memory want))

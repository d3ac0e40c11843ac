use Rattle.std.proofs.Common.{sym, ◌∙◌, None}
use Rattle.posix_calls.proofs.Chain.{exits, gives, bind_gives, bind_stops, passes, fails}
use Rattle.posix_calls.proofs.Walks.{bind_place, bind_place_stops}
use Rattle.posix_calls.specs.Decide.{mkdir}
use Rattle.posix_calls.proofs.Wants.{exit_wants, refused_wants}
use Rattle.posix_calls.proofs.dir_calls.mkdir.Goals as goal

pub returns-in_err-path-clause-answer : goal.returns-in_err-path-clause-answer
unfolding mkdir
returns-in_err-path-clause-answer g c = exits c.from_residual.ensures.1 (bind_stops _ (c.in_err-path.ensures.answer _))

pub returns-in_err-to-clause-answer : goal.returns-in_err-to-clause-answer
unfolding mkdir
returns-in_err-to-clause-answer g c = exits c.from_residual-in_err-to.ensures.1 (bind_gives _ (c.in_ok-path.ensures.answer _) (bind_place_stops None c.in_ok-path.path _ c.in_err-to.ensures.answer))

pub returns-in_err-refuse_if-clause-answer : goal.returns-in_err-refuse_if-clause-answer
unfolding mkdir
returns-in_err-refuse_if-clause-answer g c = exits c.from_residual-in_err-refuse_if.ensures.1 (bind_gives _ (c.in_ok-path.ensures.answer _) (bind_place None c.in_ok-path.path _ c.in_ok-to.ensures.answer (λ to_walked to_seen. fails _ _ c.in_err-refuse_if.ensures.refused.0 (sym c.is_there.ensures ∙ c.in_err-refuse_if.ensures.refused.1))))

pub returns-in_err-refuse_if-2-clause-answer : goal.returns-in_err-refuse_if-2-clause-answer
unfolding mkdir
returns-in_err-refuse_if-2-clause-answer g c = exits c.from_residual-in_err-refuse_if-2.ensures.1 (bind_gives _ (c.in_ok-path.ensures.answer _) (bind_place None c.in_ok-path.path _ c.in_ok-to.ensures.answer (λ to_walked to_seen. passes _ _ (sym c.is_there.ensures ∙ c.in_ok-refuse_if.ensures.clear) (fails _ _ c.in_err-refuse_if-2.ensures.refused.0 (sym c.is_full.ensures ∙ c.in_err-refuse_if-2.ensures.refused.1)))))

pub returns-clause-answer : goal.returns-clause-answer
unfolding mkdir
returns-clause-answer g c = rw c.in_ok-at.ensures.location (bind_gives _ (c.in_ok-path.ensures.answer _) (bind_place None c.in_ok-path.path _ c.in_ok-to.ensures.answer (λ to_walked to_seen. passes _ _ (sym c.is_there.ensures ∙ c.in_ok-refuse_if.ensures.clear) (passes _ _ (sym c.is_full.ensures ∙ c.in_ok-refuse_if-2.ensures.clear) (gives)))))

pub returns-in_err-path-clause-memory : goal.returns-in_err-path-clause-memory
returns-in_err-path-clause-memory g c = λ want. c.in_err-path.ensures.memory (exit_wants c.from_residual.ensures.1 want)

pub returns-in_err-to-clause-memory : goal.returns-in_err-to-clause-memory
returns-in_err-to-clause-memory g c = λ want. absurd (c.in_err-to.ensures.memory (exit_wants c.from_residual-in_err-to.ensures.1 want))

pub returns-in_err-refuse_if-clause-memory : goal.returns-in_err-refuse_if-clause-memory
returns-in_err-refuse_if-clause-memory g c = refused_wants c.from_residual-in_err-refuse_if.ensures.1 c.in_err-refuse_if.ensures.refused.0

pub returns-in_err-refuse_if-2-clause-memory : goal.returns-in_err-refuse_if-2-clause-memory
returns-in_err-refuse_if-2-clause-memory g c = refused_wants c.from_residual-in_err-refuse_if-2.ensures.1 c.in_err-refuse_if-2.ensures.refused.0

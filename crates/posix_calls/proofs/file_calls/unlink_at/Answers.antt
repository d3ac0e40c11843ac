use Rattle.std.proofs.Common.{false}
use Rattle.posix_calls.proofs.Chain.{exits, gives, passes, fails}
use Rattle.posix_calls.proofs.Targets.{bind_target, bind_target_stops}
use Rattle.posix_calls.proofs.Wants.{refused_wants}
use Rattle.posix_calls.proofs.file_calls.unlink_at.Goals as goal

pub returns-in_err-refuse_root-clause-answer : goal.returns-in_err-refuse_root-clause-answer
returns-in_err-refuse_root-clause-answer g c = exits c.from_residual.ensures.1 (fails _ _ c.in_err-refuse_root.ensures.refused.0 c.in_err-refuse_root.ensures.refused.1)

pub returns-in_err-to-clause-answer : goal.returns-in_err-to-clause-answer
returns-in_err-to-clause-answer g c = exits c.from_residual-in_err-to.ensures.1 (passes _ _ c.in_ok-refuse_root.ensures.clear (bind_target_stops false _ c.args.path.now _ c.in_err-to.ensures.answer))

pub returns-clause-answer : goal.returns-clause-answer
returns-clause-answer g c = rw c.in_ok-at.ensures.location (passes _ _ c.in_ok-refuse_root.ensures.clear (bind_target false _ c.args.path.now _ c.in_ok-to.ensures.answer (λ walked entries. gives)))

pub returns-in_err-refuse_root-clause-memory : goal.returns-in_err-refuse_root-clause-memory
returns-in_err-refuse_root-clause-memory g c = λ want. refused_wants c.from_residual.ensures.1 c.in_err-refuse_root.ensures.refused.0 want

pub returns-in_err-to-clause-memory : goal.returns-in_err-to-clause-memory
returns-in_err-to-clause-memory g c = λ want. c.in_ok-refuse_root.ensures.clear

pub returns-in_err-at-clause-memory : goal.returns-in_err-at-clause-memory
returns-in_err-at-clause-memory g c = λ want. c.in_ok-refuse_root.ensures.clear

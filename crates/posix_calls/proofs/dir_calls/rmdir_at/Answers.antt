use Rattle.std.proofs.Common.{true}
use Rattle.posix_calls.proofs.Chain.{exits, gives, bind_gives, bind_stops, passes, fails, tells_is}
use Rattle.posix_calls.proofs.Targets.{bind_target, bind_target_stops, empty_first}
use Rattle.posix_calls.proofs.Wants.{refused_wants}
use Rattle.posix_calls.proofs.dir_calls.rmdir_at.Goals as goal

pub returns-in_err-refuse_root-clause-answer : goal.returns-in_err-refuse_root-clause-answer
returns-in_err-refuse_root-clause-answer g c = exits c.from_residual.ensures.1 (fails _ _ c.in_err-refuse_root.ensures.refused.0 c.in_err-refuse_root.ensures.refused.1)

pub returns-in_err-to-clause-answer : goal.returns-in_err-to-clause-answer
returns-in_err-to-clause-answer g c = exits c.from_residual-in_err-to.ensures.1 (passes _ _ c.in_ok-refuse_root.ensures.clear (bind_target_stops true _ c.args.path.now _ c.in_err-to.ensures.answer))

pub returns-in_err-refuse_entries-clause-answer : goal.returns-in_err-refuse_entries-clause-answer
returns-in_err-refuse_entries-clause-answer g c = exits c.from_residual-in_err-refuse_entries.ensures.1 (passes _ _ c.in_ok-refuse_root.ensures.clear (bind_target true _ c.args.path.now _ c.in_ok-to.ensures.answer (λ walked entries. tells_is (empty_first _ _) (bind_stops _ c.in_err-refuse_entries.ensures.answer))))

pub returns-clause-answer : goal.returns-clause-answer
returns-clause-answer g c = rw c.in_ok-at.ensures.location (passes _ _ c.in_ok-refuse_root.ensures.clear (bind_target true _ c.args.path.now _ c.in_ok-to.ensures.answer (λ walked entries. tells_is (empty_first _ _) (bind_gives _ c.in_ok-refuse_entries.ensures.answer gives))))

pub returns-in_err-refuse_root-clause-memory : goal.returns-in_err-refuse_root-clause-memory
returns-in_err-refuse_root-clause-memory g c = λ want. refused_wants c.from_residual.ensures.1 c.in_err-refuse_root.ensures.refused.0 want

pub returns-in_err-to-clause-memory : goal.returns-in_err-to-clause-memory
returns-in_err-to-clause-memory g c = λ want. c.in_ok-refuse_root.ensures.clear

pub returns-in_err-refuse_entries-clause-memory : goal.returns-in_err-refuse_entries-clause-memory
returns-in_err-refuse_entries-clause-memory g c = λ want. c.in_ok-refuse_root.ensures.clear

pub returns-in_err-at-clause-memory : goal.returns-in_err-at-clause-memory
returns-in_err-at-clause-memory g c = λ want. c.in_ok-refuse_root.ensures.clear

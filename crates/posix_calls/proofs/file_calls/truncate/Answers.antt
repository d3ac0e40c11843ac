use Rattle.std.proofs.Common.{sym, ◌∙◌, false}
use Rattle.posix_calls.specs.Walk.{size_seen}
use Rattle.posix_calls.proofs.Chain.{exits, gives_as, bind_gives, bind_stops, passes, fails, bind_look, bind_look_missing, same_if, apart_if}
use Rattle.posix_calls.proofs.Targets.{bind_target, bind_target_stops}
use Rattle.posix_calls.specs.Decide.{truncate}
use Rattle.posix_calls.proofs.file_calls.truncate.Goals as goal

pub returns-in_err-path-clause-answer : goal.returns-in_err-path-clause-answer
unfolding truncate
returns-in_err-path-clause-answer g c = exits c.from_residual.ensures.1 (bind_stops _ (c.in_err-path.ensures.answer _))

pub returns-in_err-inode-clause-answer : goal.returns-in_err-inode-clause-answer
unfolding truncate
returns-in_err-inode-clause-answer g c = exits c.from_residual-in_err-inode.ensures.1 (bind_gives _ (c.in_ok-path.ensures.answer _) (bind_target_stops false _ c.in_ok-path.path _ c.in_err-inode.ensures.answer))

pub returns-in_err-refuse_if-clause-answer : goal.returns-in_err-refuse_if-clause-answer
unfolding truncate
returns-in_err-refuse_if-clause-answer g c = exits c.from_residual-in_err-refuse_if.ensures.1 (bind_gives _ (c.in_ok-path.ensures.answer _) (bind_target false _ c.in_ok-path.path _ c.in_ok-inode.ensures.answer (λ walked entries. fails _ _ c.in_err-refuse_if.ensures.refused.0 c.in_err-refuse_if.ensures.refused.1)))

pub returns-in_err-size-clause-answer : goal.returns-in_err-size-clause-answer
unfolding truncate
returns-in_err-size-clause-answer g c = exits c.from_residual-in_err-size.ensures.1 (bind_gives _ (c.in_ok-path.ensures.answer _) (bind_target false _ c.in_ok-path.path _ c.in_ok-inode.ensures.answer (λ walked entries. passes _ _ c.in_ok-refuse_if.ensures.clear (bind_look_missing _ size_seen size_seen _ c.in_err-size.ensures.missing.0 (sym c.file_size.ensures ∙ c.in_err-size.ensures.missing.1)))))

pub returns-then-size-len-clause-answer : goal.returns-then-size-len-clause-answer
unfolding truncate
returns-then-size-len-clause-answer g c = bind_gives _ (c.in_ok-path.ensures.answer _) (bind_target false _ c.in_ok-path.path _ c.in_ok-inode.ensures.answer (λ walked entries. passes _ _ c.in_ok-refuse_if.ensures.clear (bind_look _ size_seen size_seen _ (sym c.file_size.ensures ∙ c.in_ok-size.ensures.known) (λ s is. gives_as (same_if _ _ _ _ (is ∙ c.if-size-len.true))))))

pub returns-clause-answer : goal.returns-clause-answer
unfolding truncate
returns-clause-answer g c = bind_gives _ (c.in_ok-path.ensures.answer _) (bind_target false _ c.in_ok-path.path _ c.in_ok-inode.ensures.answer (λ walked entries. passes _ _ c.in_ok-refuse_if.ensures.clear (bind_look _ size_seen size_seen _ (sym c.file_size.ensures ∙ c.in_ok-size.ensures.known) (λ s is. gives_as (apart_if _ _ _ _ (λ e. c.if-size-len.false (sym is ∙ e)))))))

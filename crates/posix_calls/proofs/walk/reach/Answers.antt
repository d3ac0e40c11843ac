use Rattle.std.proofs.Common.{sym, ◌∙◌, None}
use Rattle.posix_calls.proofs.Chain.{exits, gives, bind_gives, bind_stops, passes, fails}
use Rattle.posix_calls.proofs.Walks.{bind_place, bind_place_stops}
use Rattle.posix_calls.proofs.walk.reach.Goals as goal

pub returns-in_err-to-clause-answer : goal.returns-in_err-to-clause-answer
returns-in_err-to-clause-answer g c = exits c.from_residual.ensures.1 (bind_place_stops None c.args.path.now _ c.in_err-to.ensures.answer)

pub returns-in_err-inode-clause-answer : goal.returns-in_err-inode-clause-answer
returns-in_err-inode-clause-answer g c = exits c.from_residual-in_err-inode.ensures.1 (bind_place None c.args.path.now _ c.in_ok-to.ensures.answer (λ to_walked to_seen. bind_stops _ (c.in_err-inode.ensures.answer _)))

pub returns-in_err-is_dir-clause-answer : goal.returns-in_err-is_dir-clause-answer
returns-in_err-is_dir-clause-answer g c = exits c.from_residual-in_err-is_dir.ensures.1 (bind_place None c.args.path.now _ c.in_ok-to.ensures.answer (λ to_walked to_seen. bind_gives _ (c.in_ok-inode.ensures.answer _) (bind_stops _ c.in_err-is_dir.ensures.answer)))

pub returns-in_err-refuse_if-clause-answer : goal.returns-in_err-refuse_if-clause-answer
returns-in_err-refuse_if-clause-answer g c = exits c.from_residual-in_err-refuse_if.ensures.1 (bind_place None c.args.path.now _ c.in_ok-to.ensures.answer (λ to_walked to_seen. bind_gives _ (c.in_ok-inode.ensures.answer _) (bind_gives _ c.in_ok-is_dir.ensures.answer (fails _ _ c.in_err-refuse_if.ensures.refused.0 (sym c.is_other_kind.ensures ∙ c.in_err-refuse_if.ensures.refused.1)))))

pub returns-clause-answer : goal.returns-clause-answer
returns-clause-answer g c = bind_place None c.args.path.now _ c.in_ok-to.ensures.answer (λ to_walked to_seen. bind_gives _ (c.in_ok-inode.ensures.answer _) (bind_gives _ c.in_ok-is_dir.ensures.answer (passes _ _ (sym c.is_other_kind.ensures ∙ c.in_ok-refuse_if.ensures.clear) gives)))

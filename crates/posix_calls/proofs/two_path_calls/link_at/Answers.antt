use Rattle.std.proofs.Common.{sym, ◌∙◌, ap, nat_le, None, false}
use Rattle.posix_calls.specs.Walk.{names_seen}
use Rattle.posix_calls.proofs.Chain.{exits, gives, passes, fails, bind_look, bind_look_missing}
use Rattle.posix_calls.proofs.Walks.{bind_place, bind_place_stops}
use Rattle.posix_calls.proofs.Targets.{bind_target, bind_target_stops}
use Rattle.posix_calls.proofs.two_path_calls.link_at.Goals as goal

pub returns-in_err-inode-clause-answer : goal.returns-in_err-inode-clause-answer
returns-in_err-inode-clause-answer g c = exits c.from_residual.ensures.1 (bind_target_stops false _ c.args.old_path.now _ c.in_err-inode.ensures.answer)

pub returns-in_err-to-clause-answer : goal.returns-in_err-to-clause-answer
returns-in_err-to-clause-answer g c = exits c.from_residual-in_err-to.ensures.1 (bind_target false _ c.args.old_path.now _ c.in_ok-inode.ensures.answer (λ walked entries. bind_place_stops None c.args.new_path.now _ c.in_err-to.ensures.answer))

pub returns-in_err-refuse_if-clause-answer : goal.returns-in_err-refuse_if-clause-answer
returns-in_err-refuse_if-clause-answer g c = exits c.from_residual-in_err-refuse_if.ensures.1 (bind_target false _ c.args.old_path.now _ c.in_ok-inode.ensures.answer (λ walked entries. bind_place None c.args.new_path.now _ c.in_ok-to.ensures.answer (λ to_walked to_seen. fails _ _ c.in_err-refuse_if.ensures.refused.0 (sym c.is_there.ensures ∙ c.in_err-refuse_if.ensures.refused.1))))

pub returns-in_err-names-clause-answer : goal.returns-in_err-names-clause-answer
returns-in_err-names-clause-answer g c = exits c.from_residual-in_err-names.ensures.1 (bind_target false _ c.args.old_path.now _ c.in_ok-inode.ensures.answer (λ walked entries. bind_place None c.args.new_path.now _ c.in_ok-to.ensures.answer (λ to_walked to_seen. passes _ _ (sym c.is_there.ensures ∙ c.in_ok-refuse_if.ensures.clear) (bind_look_missing _ names_seen names_seen _ c.in_err-names.ensures.missing.0 (sym c.file_names.ensures ∙ c.in_err-names.ensures.missing.1)))))

pub returns-in_err-refuse_if-2-clause-answer : goal.returns-in_err-refuse_if-2-clause-answer
returns-in_err-refuse_if-2-clause-answer g c = exits c.from_residual-in_err-refuse_if-2.ensures.1 (bind_target false _ c.args.old_path.now _ c.in_ok-inode.ensures.answer (λ walked entries. bind_place None c.args.new_path.now _ c.in_ok-to.ensures.answer (λ to_walked to_seen. passes _ _ (sym c.is_there.ensures ∙ c.in_ok-refuse_if.ensures.clear) (bind_look _ names_seen names_seen _ (sym c.file_names.ensures ∙ c.in_ok-names.ensures.known) (λ s is. fails _ _ c.in_err-refuse_if-2.ensures.refused.0 (ap (nat_le 1000) is ∙ c.in_err-refuse_if-2.ensures.refused.1))))))

pub returns-in_err-refuse_if-3-clause-answer : goal.returns-in_err-refuse_if-3-clause-answer
returns-in_err-refuse_if-3-clause-answer g c = exits c.from_residual-in_err-refuse_if-3.ensures.1 (bind_target false _ c.args.old_path.now _ c.in_ok-inode.ensures.answer (λ walked entries. bind_place None c.args.new_path.now _ c.in_ok-to.ensures.answer (λ to_walked to_seen. passes _ _ (sym c.is_there.ensures ∙ c.in_ok-refuse_if.ensures.clear) (bind_look _ names_seen names_seen _ (sym c.file_names.ensures ∙ c.in_ok-names.ensures.known) (λ s is. passes _ _ (ap (nat_le 1000) is ∙ c.in_ok-refuse_if-2.ensures.clear) (fails _ _ c.in_err-refuse_if-3.ensures.refused.0 (sym c.is_full.ensures ∙ c.in_err-refuse_if-3.ensures.refused.1)))))))

pub returns-clause-answer : goal.returns-clause-answer
returns-clause-answer g c = rw c.in_ok-at.ensures.location (bind_target false _ c.args.old_path.now _ c.in_ok-inode.ensures.answer (λ walked entries. bind_place None c.args.new_path.now _ c.in_ok-to.ensures.answer (λ to_walked to_seen. passes _ _ (sym c.is_there.ensures ∙ c.in_ok-refuse_if.ensures.clear) (bind_look _ names_seen names_seen _ (sym c.file_names.ensures ∙ c.in_ok-names.ensures.known) (λ s is. passes _ _ (ap (nat_le 1000) is ∙ c.in_ok-refuse_if-2.ensures.clear) (passes _ _ (sym c.is_full.ensures ∙ c.in_ok-refuse_if-3.ensures.clear) gives))))))

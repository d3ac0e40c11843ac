use Rattle.std.proofs.Common.{sym, ◌∙◌, Some, None}
use Rattle.posix_calls.proofs.Chain.{exits, gives, bind_gives, bind_stops, passes, fails, if_holds, if_fails, or_clear, or_left, or_right}
use Rattle.posix_calls.proofs.Walks.{bind_place, bind_place_stops}
use Rattle.posix_calls.proofs.Wants.{refused_wants}
use Rattle.posix_calls.proofs.two_path_calls.rename_at.Goals as goal

pub returns-in_err-refuse_root-clause-answer : goal.returns-in_err-refuse_root-clause-answer
returns-in_err-refuse_root-clause-answer g c = exits c.from_residual.ensures.1 (fails _ _ c.in_err-refuse_root.ensures.refused.0 (or_left _ c.in_err-refuse_root.ensures.refused.1))

pub returns-in_err-refuse_root-2-clause-answer : goal.returns-in_err-refuse_root-2-clause-answer
returns-in_err-refuse_root-2-clause-answer g c = exits c.from_residual-in_err-refuse_root-2.ensures.1 (fails _ _ c.in_err-refuse_root-2.ensures.refused.0 (or_right _ c.in_err-refuse_root-2.ensures.refused.1))

pub returns-in_err-from-clause-answer : goal.returns-in_err-from-clause-answer
returns-in_err-from-clause-answer g c = exits c.from_residual-in_err-from.ensures.1 (passes _ _ (or_clear c.in_ok-refuse_root.ensures.clear c.in_ok-refuse_root-2.ensures.clear) (bind_place_stops None c.args.old_path.now _ c.in_err-from.ensures.answer))

pub returns-in_err-inode-clause-answer : goal.returns-in_err-inode-clause-answer
returns-in_err-inode-clause-answer g c = exits c.from_residual-in_err-inode.ensures.1 (passes _ _ (or_clear c.in_ok-refuse_root.ensures.clear c.in_ok-refuse_root-2.ensures.clear) (bind_place None c.args.old_path.now _ c.in_ok-from.ensures.answer (λ from_walked from_seen. bind_stops _ (c.in_err-inode.ensures.answer _))))

pub returns-in_err-to-clause-answer : goal.returns-in_err-to-clause-answer
returns-in_err-to-clause-answer g c = exits c.from_residual-in_err-to.ensures.1 (passes _ _ (or_clear c.in_ok-refuse_root.ensures.clear c.in_ok-refuse_root-2.ensures.clear) (bind_place None c.args.old_path.now _ c.in_ok-from.ensures.answer (λ from_walked from_seen. bind_gives _ (c.in_ok-inode.ensures.answer _) (bind_place_stops (Some c.in_ok-inode.inode) c.args.new_path.now _ c.in_err-to.ensures.answer))))

pub returns-in_err-refuse_if-clause-answer : goal.returns-in_err-refuse_if-clause-answer
returns-in_err-refuse_if-clause-answer g c = exits c.from_residual-in_err-refuse_if.ensures.1 (passes _ _ (or_clear c.in_ok-refuse_root.ensures.clear c.in_ok-refuse_root-2.ensures.clear) (bind_place None c.args.old_path.now _ c.in_ok-from.ensures.answer (λ from_walked from_seen. bind_gives _ (c.in_ok-inode.ensures.answer _) (bind_place (Some c.in_ok-inode.inode) c.args.new_path.now _ c.in_ok-to.ensures.answer (λ to_walked to_seen. fails _ _ c.in_err-refuse_if.ensures.refused.0 (to_seen ∙ c.in_err-refuse_if.ensures.refused.1))))))

pub returns-in_err-is_dir-clause-answer : goal.returns-in_err-is_dir-clause-answer
returns-in_err-is_dir-clause-answer g c = exits c.from_residual-in_err-is_dir.ensures.1 (passes _ _ (or_clear c.in_ok-refuse_root.ensures.clear c.in_ok-refuse_root-2.ensures.clear) (bind_place None c.args.old_path.now _ c.in_ok-from.ensures.answer (λ from_walked from_seen. bind_gives _ (c.in_ok-inode.ensures.answer _) (bind_place (Some c.in_ok-inode.inode) c.args.new_path.now _ c.in_ok-to.ensures.answer (λ to_walked to_seen. passes _ _ (to_seen ∙ c.in_ok-refuse_if.ensures.clear) (if_fails _ (sym c.leads_to.ensures ∙ c.if-leads_to.false) (bind_stops _ c.in_err-is_dir.ensures.answer)))))))

pub returns-in_err-replaced-clause-answer : goal.returns-in_err-replaced-clause-answer
returns-in_err-replaced-clause-answer g c = exits c.from_residual-in_err-replaced.ensures.1 (passes _ _ (or_clear c.in_ok-refuse_root.ensures.clear c.in_ok-refuse_root-2.ensures.clear) (bind_place None c.args.old_path.now _ c.in_ok-from.ensures.answer (λ from_walked from_seen. bind_gives _ (c.in_ok-inode.ensures.answer _) (bind_place (Some c.in_ok-inode.inode) c.args.new_path.now _ c.in_ok-to.ensures.answer (λ to_walked to_seen. passes _ _ (to_seen ∙ c.in_ok-refuse_if.ensures.clear) (if_fails _ (sym c.leads_to.ensures ∙ c.if-leads_to.false) (bind_gives _ c.in_ok-is_dir.ensures.answer (bind_stops _ (c.in_err-replaced.ensures.answer c.args.old_path.now c.args.new_path.now from_walked to_walked)))))))))

pub returns-then-leads_to-clause-answer : goal.returns-then-leads_to-clause-answer
returns-then-leads_to-clause-answer g c = (passes _ _ (or_clear c.in_ok-refuse_root.ensures.clear c.in_ok-refuse_root-2.ensures.clear) (bind_place None c.args.old_path.now _ c.in_ok-from.ensures.answer (λ from_walked from_seen. bind_gives _ (c.in_ok-inode.ensures.answer _) (bind_place (Some c.in_ok-inode.inode) c.args.new_path.now _ c.in_ok-to.ensures.answer (λ to_walked to_seen. passes _ _ (to_seen ∙ c.in_ok-refuse_if.ensures.clear) (if_holds _ (sym c.leads_to.ensures ∙ c.if-leads_to.true) (gives)))))))

pub returns-clause-answer : goal.returns-clause-answer
returns-clause-answer g c = rw (c.in_ok-old_location.ensures.location, c.in_ok-new_location.ensures.location) (passes _ _ (or_clear c.in_ok-refuse_root.ensures.clear c.in_ok-refuse_root-2.ensures.clear) (bind_place None c.args.old_path.now _ c.in_ok-from.ensures.answer (λ from_walked from_seen. bind_gives _ (c.in_ok-inode.ensures.answer _) (bind_place (Some c.in_ok-inode.inode) c.args.new_path.now _ c.in_ok-to.ensures.answer (λ to_walked to_seen. passes _ _ (to_seen ∙ c.in_ok-refuse_if.ensures.clear) (if_fails _ (sym c.leads_to.ensures ∙ c.if-leads_to.false) (bind_gives _ c.in_ok-is_dir.ensures.answer (bind_gives _ (c.in_ok-replaced.ensures.answer c.args.old_path.now c.args.new_path.now from_walked to_walked) (gives)))))))))

pub returns-in_err-refuse_root-clause-memory : goal.returns-in_err-refuse_root-clause-memory
returns-in_err-refuse_root-clause-memory g c = λ want. refused_wants c.from_residual.ensures.1 c.in_err-refuse_root.ensures.refused.0 want

pub returns-in_err-refuse_root-2-clause-memory : goal.returns-in_err-refuse_root-2-clause-memory
returns-in_err-refuse_root-2-clause-memory g c = λ want. c.in_ok-refuse_root.ensures.clear

pub returns-in_err-from-clause-memory : goal.returns-in_err-from-clause-memory
returns-in_err-from-clause-memory g c = λ want. c.in_ok-refuse_root.ensures.clear

pub returns-in_err-inode-clause-memory : goal.returns-in_err-inode-clause-memory
returns-in_err-inode-clause-memory g c = λ want. c.in_ok-refuse_root.ensures.clear

pub returns-in_err-to-clause-memory : goal.returns-in_err-to-clause-memory
returns-in_err-to-clause-memory g c = λ want. c.in_ok-refuse_root.ensures.clear

pub returns-in_err-refuse_if-clause-memory : goal.returns-in_err-refuse_if-clause-memory
returns-in_err-refuse_if-clause-memory g c = λ want. c.in_ok-refuse_root.ensures.clear

pub returns-in_err-is_dir-clause-memory : goal.returns-in_err-is_dir-clause-memory
returns-in_err-is_dir-clause-memory g c = λ want. c.in_ok-refuse_root.ensures.clear

pub returns-in_err-replaced-clause-memory : goal.returns-in_err-replaced-clause-memory
returns-in_err-replaced-clause-memory g c = λ want. c.in_ok-refuse_root.ensures.clear

pub returns-in_err-old_location-clause-memory : goal.returns-in_err-old_location-clause-memory
returns-in_err-old_location-clause-memory g c = λ want. c.in_ok-refuse_root.ensures.clear

pub returns-in_err-new_location-clause-memory : goal.returns-in_err-new_location-clause-memory
returns-in_err-new_location-clause-memory g c = λ want. c.in_ok-refuse_root.ensures.clear

use Rattle.std.proofs.Common.{sym, ◌∙◌, None}
use Rattle.posix_calls.proofs.Chain.{exits, gives, bind_gives, bind_stops, passes, fails}
use Rattle.posix_calls.proofs.Walks.{bind_place, bind_place_stops}
use Rattle.posix_calls.proofs.descriptor_calls.open_at.Goals as goal

pub returns-in_err-refuse_if-clause-answer : goal.returns-in_err-refuse_if-clause-answer
returns-in_err-refuse_if-clause-answer g c = exits c.from_residual.ensures.1 (fails _ _ c.in_err-refuse_if.ensures.refused.0 (sym c.is_senseless.ensures ∙ c.in_err-refuse_if.ensures.refused.1))

pub returns-in_err-descriptor-clause-answer : goal.returns-in_err-descriptor-clause-answer
returns-in_err-descriptor-clause-answer g c = exits c.from_residual-in_err-descriptor.ensures.1 (passes _ _ (sym c.is_senseless.ensures ∙ c.in_ok-refuse_if.ensures.clear) (bind_stops _ (c.in_err-descriptor.ensures.answer _)))

pub returns-in_err-to-clause-answer : goal.returns-in_err-to-clause-answer
returns-in_err-to-clause-answer g c = exits c.from_residual-in_err-to.ensures.1 (passes _ _ (sym c.is_senseless.ensures ∙ c.in_ok-refuse_if.ensures.clear) (bind_gives _ (c.in_ok-descriptor.ensures.answer _) (bind_place_stops None c.args.path.now _ c.in_err-to.ensures.answer)))

pub returns-in_err-refuse_if-2-clause-answer : goal.returns-in_err-refuse_if-2-clause-answer
returns-in_err-refuse_if-2-clause-answer g c = exits c.from_residual-in_err-refuse_if-2.ensures.1 (passes _ _ (sym c.is_senseless.ensures ∙ c.in_ok-refuse_if.ensures.clear) (bind_gives _ (c.in_ok-descriptor.ensures.answer _) (bind_place None c.args.path.now _ c.in_ok-to.ensures.answer (λ to_walked to_seen. fails _ _ c.in_err-refuse_if-2.ensures.refused.0 (sym c.is_taken.ensures ∙ c.in_err-refuse_if-2.ensures.refused.1)))))

pub returns-in_err-is_dir-clause-answer : goal.returns-in_err-is_dir-clause-answer
returns-in_err-is_dir-clause-answer g c = exits c.from_residual-in_err-is_dir.ensures.1 (passes _ _ (sym c.is_senseless.ensures ∙ c.in_ok-refuse_if.ensures.clear) (bind_gives _ (c.in_ok-descriptor.ensures.answer _) (bind_place None c.args.path.now _ c.in_ok-to.ensures.answer (λ to_walked to_seen. passes _ _ (sym c.is_taken.ensures ∙ c.in_ok-refuse_if-2.ensures.clear) (bind_stops _ c.in_err-is_dir.ensures.answer)))))

pub returns-in_err-refuse_if-3-clause-answer : goal.returns-in_err-refuse_if-3-clause-answer
returns-in_err-refuse_if-3-clause-answer g c = exits c.from_residual-in_err-refuse_if-3.ensures.1 (passes _ _ (sym c.is_senseless.ensures ∙ c.in_ok-refuse_if.ensures.clear) (bind_gives _ (c.in_ok-descriptor.ensures.answer _) (bind_place None c.args.path.now _ c.in_ok-to.ensures.answer (λ to_walked to_seen. passes _ _ (sym c.is_taken.ensures ∙ c.in_ok-refuse_if-2.ensures.clear) (bind_gives _ c.in_ok-is_dir.ensures.answer (fails _ _ c.in_err-refuse_if-3.ensures.refused.0 (c.in_err-refuse_if-3.ensures.refused.1)))))))

pub returns-in_err-refuse_if-4-clause-answer : goal.returns-in_err-refuse_if-4-clause-answer
returns-in_err-refuse_if-4-clause-answer g c = exits c.from_residual-in_err-refuse_if-4.ensures.1 (passes _ _ (sym c.is_senseless.ensures ∙ c.in_ok-refuse_if.ensures.clear) (bind_gives _ (c.in_ok-descriptor.ensures.answer _) (bind_place None c.args.path.now _ c.in_ok-to.ensures.answer (λ to_walked to_seen. passes _ _ (sym c.is_taken.ensures ∙ c.in_ok-refuse_if-2.ensures.clear) (bind_gives _ c.in_ok-is_dir.ensures.answer (passes _ _ (c.in_ok-refuse_if-3.ensures.clear) (rw c.in_default.is (fails _ _ c.in_err-refuse_if-4.ensures.refused.0 (c.in_err-refuse_if-4.ensures.refused.1)))))))))

pub returns-in_err-refuse_if-5-clause-answer : goal.returns-in_err-refuse_if-5-clause-answer
returns-in_err-refuse_if-5-clause-answer g c = exits c.from_residual-in_err-refuse_if-5.ensures.1 (passes _ _ (sym c.is_senseless.ensures ∙ c.in_ok-refuse_if.ensures.clear) (bind_gives _ (c.in_ok-descriptor.ensures.answer _) (bind_place None c.args.path.now _ c.in_ok-to.ensures.answer (λ to_walked to_seen. passes _ _ (sym c.is_taken.ensures ∙ c.in_ok-refuse_if-2.ensures.clear) (bind_gives _ c.in_ok-is_dir.ensures.answer (passes _ _ (c.in_ok-refuse_if-3.ensures.clear) (rw c.in_default.is (passes _ _ (c.in_ok-refuse_if-4.ensures.clear) (fails _ _ c.in_err-refuse_if-5.ensures.refused.0 (sym c.is_full.ensures ∙ c.in_err-refuse_if-5.ensures.refused.1))))))))))

pub returns-in_default-clause-answer : goal.returns-in_default-clause-answer
returns-in_default-clause-answer g c = rw c.in_ok-at.ensures.location (passes _ _ (sym c.is_senseless.ensures ∙ c.in_ok-refuse_if.ensures.clear) (bind_gives _ (c.in_ok-descriptor.ensures.answer _) (bind_place None c.args.path.now _ c.in_ok-to.ensures.answer (λ to_walked to_seen. passes _ _ (sym c.is_taken.ensures ∙ c.in_ok-refuse_if-2.ensures.clear) (bind_gives _ c.in_ok-is_dir.ensures.answer (passes _ _ (c.in_ok-refuse_if-3.ensures.clear) (rw c.in_default.is (passes _ _ (c.in_ok-refuse_if-4.ensures.clear) (passes _ _ (sym c.is_full.ensures ∙ c.in_ok-refuse_if-5.ensures.clear) (gives))))))))))

pub returns-in_err-empties-clause-answer : goal.returns-in_err-empties-clause-answer
returns-in_err-empties-clause-answer g c = exits c.from_residual-in_err-empties.ensures.1 (passes _ _ (sym c.is_senseless.ensures ∙ c.in_ok-refuse_if.ensures.clear) (bind_gives _ (c.in_ok-descriptor.ensures.answer _) (bind_place None c.args.path.now _ c.in_ok-to.ensures.answer (λ to_walked to_seen. passes _ _ (sym c.is_taken.ensures ∙ c.in_ok-refuse_if-2.ensures.clear) (bind_gives _ c.in_ok-is_dir.ensures.answer (passes _ _ (c.in_ok-refuse_if-3.ensures.clear) (rw c.in-Some.is (bind_stops _ c.in_err-empties.ensures.answer))))))))

pub returns-clause-answer : goal.returns-clause-answer
returns-clause-answer g c = (passes _ _ (sym c.is_senseless.ensures ∙ c.in_ok-refuse_if.ensures.clear) (bind_gives _ (c.in_ok-descriptor.ensures.answer _) (bind_place None c.args.path.now _ c.in_ok-to.ensures.answer (λ to_walked to_seen. passes _ _ (sym c.is_taken.ensures ∙ c.in_ok-refuse_if-2.ensures.clear) (bind_gives _ c.in_ok-is_dir.ensures.answer (passes _ _ (c.in_ok-refuse_if-3.ensures.clear) (rw c.in-Some.is (bind_gives _ c.in_ok-empties.ensures.answer (gives)))))))))

use Rattle.std.proofs.Common.{sym, ◌∙◌}
use Rattle.posix_calls.proofs.Chain.{exits, gives, bind_gives, bind_stops, passes, fails, tells_is}
use Rattle.posix_calls.proofs.Targets.{empty_first}
use Rattle.posix_calls.proofs.Walks.{kind_there}
use Rattle.posix_calls.proofs.two_path_calls.find_replaced.Goals as goal

pub returns-in_err-new_dir-clause-answer : goal.returns-in_err-new_dir-clause-answer
returns-in_err-new_dir-clause-answer g c = λ a b v w. exits c.from_residual-in_err-new_dir.ensures.1 (rw c.in-Some.is (bind_stops _ (kind_there c.in-Some.is c.in_err-new_dir.ensures.answer)))

pub returns-in_err-refuse_if-2-clause-answer : goal.returns-in_err-refuse_if-2-clause-answer
returns-in_err-refuse_if-2-clause-answer g c = λ a b v w. exits c.from_residual-in_err-refuse_if-2.ensures.1 (rw c.in-Some.is (bind_gives _ (kind_there c.in-Some.is c.in_ok-new_dir.ensures.answer) (fails _ _ c.in_err-refuse_if-2.ensures.refused.0 (c.in_err-refuse_if-2.ensures.refused.1))))

pub returns-in_err-refuse_if-3-clause-answer : goal.returns-in_err-refuse_if-3-clause-answer
returns-in_err-refuse_if-3-clause-answer g c = λ a b v w. exits c.from_residual-in_err-refuse_if-3.ensures.1 (rw c.in-Some.is (bind_gives _ (kind_there c.in-Some.is c.in_ok-new_dir.ensures.answer) (passes _ _ (c.in_ok-refuse_if-2.ensures.clear) (fails _ _ c.in_err-refuse_if-3.ensures.refused.0 (c.in_err-refuse_if-3.ensures.refused.1)))))

pub returns-in_err-refuse_entries-clause-answer : goal.returns-in_err-refuse_entries-clause-answer
returns-in_err-refuse_entries-clause-answer g c = λ a b v w. exits c.from_residual-in_err-refuse_entries.ensures.1 (rw c.in-Some.is (bind_gives _ (kind_there c.in-Some.is c.in_ok-new_dir.ensures.answer) (passes _ _ (c.in_ok-refuse_if-2.ensures.clear) (passes _ _ (c.in_ok-refuse_if-3.ensures.clear) (rw c.if-not-new_dir.false (tells_is (empty_first _ _) (bind_stops _ c.in_err-refuse_entries.ensures.answer)))))))

pub returns-in_err-refuse_if-clause-answer : goal.returns-in_err-refuse_if-clause-answer
returns-in_err-refuse_if-clause-answer g c = λ a b v w. exits c.from_residual.ensures.1 (rw c.in_default.is (fails _ _ c.in_err-refuse_if.ensures.refused.0 (sym c.missing_room.ensures ∙ c.in_err-refuse_if.ensures.refused.1)))

pub returns-in_default-clause-answer : goal.returns-in_default-clause-answer
returns-in_default-clause-answer g c = λ a b v w. (rw c.in_default.is (passes _ _ (sym c.missing_room.ensures ∙ c.in_ok-refuse_if.ensures.clear) (gives)))

pub returns-then-not-new_dir-clause-answer : goal.returns-then-not-new_dir-clause-answer
returns-then-not-new_dir-clause-answer g c = λ a b v w. (rw c.in-Some.is (bind_gives _ (kind_there c.in-Some.is c.in_ok-new_dir.ensures.answer) (passes _ _ (c.in_ok-refuse_if-2.ensures.clear) (passes _ _ (c.in_ok-refuse_if-3.ensures.clear) (rw c.if-not-new_dir.true (gives))))))

pub returns-clause-answer : goal.returns-clause-answer
returns-clause-answer g c = λ a b v w. (rw c.in-Some.is (bind_gives _ (kind_there c.in-Some.is c.in_ok-new_dir.ensures.answer) (passes _ _ (c.in_ok-refuse_if-2.ensures.clear) (passes _ _ (c.in_ok-refuse_if-3.ensures.clear) (rw c.if-not-new_dir.false (tells_is (empty_first _ _) (bind_gives _ c.in_ok-refuse_entries.ensures.answer gives)))))))

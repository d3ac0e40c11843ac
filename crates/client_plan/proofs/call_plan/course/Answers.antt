use Rattle.std.proofs.Common.{refl, Ok, Err, ap, sym, ◌∙◌, subst}
use Rattle.std.proofs.lemmas.Bool.{or_right}
use Rattle.posix_calls.specs.Answers.{IsAnswer}
use Rattle.posix_calls.specs.Decide.{decide}
use Rattle.posix_calls.specs.Tree.{Own}
use Rattle.client_plan.specs.PlanSteps.{Comes}
use Rattle.client_plan.specs.Memory.{has_change}
use Rattle.client_plan.specs.CallPlan.{plan_outcome, course}
use Rattle.client_plan.specs.declared.stop.Stop.{Stop}
use Rattle.client_plan.proofs.Courses.{comes_same, then_goes, then_stops, tells_goes, tells_stops}
use Rattle.client_plan.proofs.Whole.{course_from}
use Rattle.client_plan.proofs.call_plan.course.Goals as goal

pub returns-in-Ok-clause-comes : goal.returns-in-Ok-clause-comes
returns-in-Ok-clause-comes g c =
    let p = g.T.TreeAnswers.part c.args.tree.now in
    let h = g.S.Supplies.holdings c.args.has.now in
    let tells = subst (λ (own : Own). IsAnswer p (decide own c.args.call.now) (Ok c.in-Ok.operation)) c.own.ensures c.in-Ok.ensures.answer in
    comes_same (course_from p h c.args.call.now c.requires c.in_ok-unpin.ensures.clear) (then_goes (plan_outcome p h) (tells_goes h tells) c.plan.ensures.comes)

pub returns-in-Ok-clause-memory : goal.returns-in-Ok-clause-memory
returns-in-Ok-clause-memory g c =
    let p = g.T.TreeAnswers.part c.args.tree.now in
    let tells = subst (λ (own : Own). IsAnswer p (decide own c.args.call.now) (Ok c.in-Ok.operation)) c.own.ensures c.in-Ok.ensures.answer in
    λ memory. or_right _ _ (ap has_change (tells.gives c.in-Ok.operation refl) ∙ c.plan.ensures.memory memory)

pub returns-in-Err-clause-comes : goal.returns-in-Err-clause-comes
returns-in-Err-clause-comes g c =
    let p = g.T.TreeAnswers.part c.args.tree.now in
    let h = g.S.Supplies.holdings c.args.has.now in
    let tells = subst (λ (own : Own). IsAnswer p (decide own c.args.call.now) (Err c.in-Err.why)) c.own.ensures c.in-Err.ensures.answer in
    subst (λ (s : Stop). Comes (course p h c.args.call.now) (Err s)) (sym c.stop_at.ensures) (comes_same (course_from p h c.args.call.now c.requires c.in_ok-unpin.ensures.clear) (then_stops (plan_outcome p h) (tells_stops h tells)))

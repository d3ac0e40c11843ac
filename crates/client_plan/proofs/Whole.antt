-- The course of a call is what is left of it where no pin is to be given back.
use Rattle.std.proofs.Common.{◌≡◌, refl, Some, true, Ok, Err, ap, sym}
use Rattle.posix_calls.specs.declared.call.Call.{Call}
use Rattle.posix_calls.specs.declared.operation.Operation.{Operation}
use Rattle.posix_calls.specs.Part.{Part, Found, Known, Unknown, run_part}
use Rattle.posix_calls.specs.Decide.{decide}
use Rattle.client_plan.specs.declared.outcome.Outcome.{Outcome}
use Rattle.client_plan.specs.PlanSteps.{PlanSteps, Goes, ◌>>=◌}
use Rattle.client_plan.specs.Holdings.{Holdings}
use Rattle.client_plan.specs.NeedOrder.{root_alone, not_refused, unpin_step, found_step, look_step}
use Rattle.client_plan.specs.CallPlan.{plan_outcome, course}
use Rattle.client_plan.proofs.RootAlone.{words_are_known}

module _ (p : Part) (h : Holdings) (call : Call) (root : p.is_dir 1 ≡ Some (Some true)) (clear : unpin_step h call ≡ Goes tt) where
  abbrev after : Unit {0} → PlanSteps Outcome
  after u = look_step p h (decide h.own call) >>= plan_outcome p h

  by_words : (o : Found Operation) → run_part root_alone (decide h.own call) ≡ o → (not_refused o >>= (λ _. unpin_step h call >>= after)) ≡ (look_step p h (decide h.own call) >>= plan_outcome p h)
  by_words (Known (Ok x)) is = ap (λ c. c >>= after) clear
  by_words (Known (Err e)) is = sym (ap (λ o. found_step h o >>= plan_outcome p h) (words_are_known p root (decide h.own call) (Err e) is))
  by_words (Unknown what) is = ap (λ c. c >>= after) clear

  pub course_from : course p h call ≡ (look_step p h (decide h.own call) >>= plan_outcome p h)
  course_from = by_words (run_part root_alone (decide h.own call)) refl

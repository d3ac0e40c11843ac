-- A course is its first part and then the rest.
use Rattle.std.proofs.Common.{◌≡◌, ℕ, List, Bool, Option, Some, None, Result, Ok, Err, cond, true, refl, ap, sym, ◌∙◌}
use Rattle.std.specs.Prelude.{unwrap_or}
use Rattle.posix_calls.specs.declared.call.Reply.{Reply}
use Rattle.posix_calls.specs.declared.operation.Operation.{Operation}
use Rattle.posix_calls.specs.declared.operation.Operation.TheVariants.{Tell}
use Rattle.posix_calls.specs.Part.{Part}
use Rattle.posix_calls.specs.Operations.{makes, reply_of}
use Rattle.posix_calls.specs.Kinds.{is_query, opens}
use Rattle.call_effects.specs.log_record.declared.format.Record.{Record}
use Rattle.call_effects.specs.ChangeTest.{changes}
use Rattle.call_effects.specs.Records.{units_asked}
use Rattle.call_effects.specs.Subjects.{subjects_of}
use Rattle.client_plan.specs.declared.outcome.DescriptorChange.{DescriptorChange}
use Rattle.client_plan.specs.declared.outcome.Outcome.{Outcome}
use Rattle.client_plan.specs.declared.outcome.Outcome.TheVariants.{Log}
use Rattle.client_plan.specs.PlanSteps.{PlanSteps, Goes, Refuses, Lacks, ◌>>=◌, Comes}
use Rattle.client_plan.specs.declared.stop.Stop.{Stop}
use Rattle.client_plan.specs.Holdings.{Holdings}
use Rattle.client_plan.specs.NeedOrder.{look_step, number_step, write_step, unit_step, pin_step, roomy, room_step}
use Rattle.client_plan.specs.CallPlan.{made_by, change_of, record_of_plan, fitting_record, log_outcome, grant_step, settle_outcome, plan_outcome}
use Rattle.client_plan.proofs.Courses.{comes_goes, comes_same, then_goes, then_stops}

granted_at : {B : Type 0} (u q : PlanSteps (Unit {0})) (n : ℕ) (f : ℕ → PlanSteps B) → ((u >>= (λ _. q >>= (λ _. Goes n))) >>= f) ≡ (u >>= (λ _. q >>= (λ _. f n)))
granted_at (Goes x) (Goes y) n f = refl
granted_at (Goes x) (Refuses e) n f = refl
granted_at (Goes x) (Lacks need) n f = refl
granted_at (Refuses e) q n f = refl
granted_at (Lacks need) q n f = refl

granted : {B : Type 0} (w : PlanSteps (Unit {0})) (l : PlanSteps ℕ) (u : ℕ → PlanSteps (Unit {0})) (q : PlanSteps (Unit {0})) (f : ℕ → PlanSteps B) → ((w >>= (λ _. l >>= (λ n. u n >>= (λ _. q >>= (λ _. Goes n))))) >>= f) ≡ (w >>= (λ _. l >>= (λ n. u n >>= (λ _. q >>= (λ _. f n)))))
granted (Goes x) (Goes n) u q f = granted_at (u n) q n f
granted (Goes x) (Refuses e) u q f = refl
granted (Goes x) (Lacks need) u q f = refl
granted (Refuses e) l u q f = refl
granted (Lacks need) l u q f = refl

-- a plan behind its number
abbrev pub plan_rest : Part → Holdings → Operation → ℕ → PlanSteps Outcome
plan_rest p h operation new = grant_step p h new operation >>= settle_outcome p h new operation

plan_rest_is : (p : Part) (h : Holdings) (operation : Operation) (c : PlanSteps ℕ) → (c >>= (λ new. do
  _ ← write_step p h new operation (subjects_of new operation)
  units ← look_step p h (units_asked operation)
  _ ← unit_step h.spare units
  _ ← pin_step h.pins (opens new operation)
  settle_outcome p h new operation units)) ≡ (c >>= plan_rest p h operation)
plan_rest_is p h operation (Goes new) = sym (granted (write_step p h new operation (subjects_of new operation)) (look_step p h (units_asked operation)) (unit_step h.spare) (pin_step h.pins (opens new operation)) (settle_outcome p h new operation))
plan_rest_is p h operation (Refuses e) = refl
plan_rest_is p h operation (Lacks need) = refl

pub plan_comes : (p : Part) (h : Holdings) (operation : Operation) (numbers : List ℕ) (makes_node : Bool) (new : ℕ) (r : Result Outcome Stop) → numbers ≡ h.numbers → makes_node ≡ makes operation → Comes (number_step numbers makes_node) (Ok new) → Comes (plan_rest p h operation new) r → Comes (plan_outcome p h operation) r
plan_comes p h operation numbers makes_node new r is-numbers is-made number rest =
    let is = ap (λ ns. number_step ns (makes operation)) (sym is-numbers) ∙ ap (number_step numbers) (sym is-made) in
    comes_same (plan_rest_is p h operation (number_step h.numbers (makes operation))) (then_goes (plan_rest p h operation) (comes_same {r = Ok new} is number) rest)

fitted_at : {B : Type 0} (u : PlanSteps (Unit {0})) (r : Record) (f : Record → PlanSteps B) → ((u >>= (λ _. Goes r)) >>= f) ≡ (u >>= (λ _. f r))
fitted_at (Goes x) r f = refl
fitted_at (Refuses e) r f = refl
fitted_at (Lacks need) r f = refl

fitted : {B : Type 0} (m : PlanSteps ℕ) (c : PlanSteps Record) (u : ℕ → Record → PlanSteps (Unit {0})) (f : Record → PlanSteps B) → ((m >>= (λ most. c >>= (λ r. u most r >>= (λ _. Goes r)))) >>= f) ≡ (m >>= (λ most. c >>= (λ r. u most r >>= (λ _. f r))))
fitted (Goes most) (Goes r) u f = fitted_at (u most r) r f
fitted (Goes most) (Refuses e) u f = refl
fitted (Goes most) (Lacks need) u f = refl
fitted (Refuses e) c u f = refl
fitted (Lacks need) c u f = refl

-- what is logged, by the record
abbrev pub logged_as : ℕ → Operation → Record → PlanSteps Outcome
logged_as new operation entry = Goes (Log entry (reply_of operation) (made_by new operation) (change_of new operation))

log_is_of_record : (p : Part) (h : Holdings) (new : ℕ) (operation : Operation) (units : ℕ) → log_outcome p h new operation units ≡ (fitting_record p h new operation units >>= logged_as new operation)
log_is_of_record p h new operation units = sym (fitted (roomy h.room) (record_of_plan p h new operation units) room_step (logged_as new operation))

pub log_told : (p : Part) (h : Holdings) (new : ℕ) (operation : Operation) (units : ℕ) (entry : Record) (reply : Reply) (made : Option ℕ) (change : Option DescriptorChange) → reply ≡ reply_of operation → made ≡ made_by new operation → change ≡ change_of new operation → Comes (fitting_record p h new operation units) (Ok entry) → Comes (log_outcome p h new operation units) (Ok (Log entry reply made change))
log_told p h new operation units entry reply made change is-reply is-made is-change comes =
    let is = ap (λ r. Goes (Log entry r (made_by new operation) (change_of new operation))) (sym is-reply) ∙ ap (λ m. Goes (Log entry reply m (change_of new operation))) (sym is-made) ∙ ap (λ d. Goes (Log entry reply made d)) (sym is-change) in
    comes_same (log_is_of_record p h new operation units) (then_goes {c = fitting_record p h new operation units} (logged_as new operation) comes (comes_goes is))

pub log_stops : (p : Part) (h : Holdings) (new : ℕ) (operation : Operation) (units : ℕ) (stop : Stop) → Comes (fitting_record p h new operation units) (Err stop) → Comes (log_outcome p h new operation units) (Err stop)
log_stops p h new operation units stop made = comes_same (log_is_of_record p h new operation units) (then_stops {c = fitting_record p h new operation units} (logged_as new operation) made)

-- what changes something is answered by its own reply
pub answered : (operation : Operation) (o : Option Reply) (other reply : Reply) → reply ≡ unwrap_or o other → o ≡ cond (is_query operation) None (Some (reply_of operation)) → changes operation ≡ true → reply ≡ reply_of operation
answered (Tell answer) o other reply told is change = absurd (cc)
answered _ o other reply told is change = told ∙ ap (λ (r : Option Reply). unwrap_or r other) is

-- Which course each outcome is of.
use Rattle.std.proofs.Common.{◌≡◌, ◌⊎◌, inl, inr, ℕ, refl, None, Option, Bool, true, false, cond, ap, sym, ◌∙◌}
use Rattle.posix_calls.specs.declared.errno.Errno.{Errno}
use Rattle.posix_calls.specs.declared.call.Call.{Call}
use Rattle.posix_calls.specs.declared.call.Reply.{Reply}
use Rattle.posix_calls.specs.declared.call.Reply.TheVariants.{Failed}
use Rattle.posix_calls.specs.declared.operation.Operation.{Operation}
use Rattle.posix_calls.specs.Part.{Part}
use Rattle.posix_calls.specs.Operations.{reply_of}
use Rattle.call_effects.specs.log_record.declared.format.Record.{Record}
use Rattle.call_effects.specs.ChangeTest.{changes}
use Rattle.client_plan.specs.declared.need.Need.{Need}
use Rattle.client_plan.specs.declared.outcome.DescriptorChange.{DescriptorChange}
use Rattle.client_plan.specs.declared.outcome.Outcome.{Outcome}
use Rattle.client_plan.specs.declared.outcome.Outcome.TheVariants as outcomes
use Rattle.client_plan.specs.PlanSteps.{PlanSteps, Goes, Refuses, Lacks, end_of}
use Rattle.client_plan.specs.Holdings.{Holdings}
use Rattle.client_plan.specs.CallPlan.{answer_outcome, log_outcome, course, outcome, made_by, change_of}
use Rattle.client_plan.proofs.Ends.{LogGoes, OperationGoes, log_goes, course_goes}

-- where a call goes on to an end it changes nothing and is answered, or is logged
pub settled_ends : (p : Part) (h : Holdings) (new : ℕ) (operation : Operation) (units : ℕ) (o : Outcome) (b : Bool) → changes operation ≡ b → cond b (log_outcome p h new operation units) (Goes (answer_outcome new operation)) ≡ Goes o → LogGoes p h new operation units o ⊎ ((changes operation ≡ false) × (o ≡ answer_outcome new operation))
settled_ends p h new operation units o true is e = inl (log_goes p h new operation units o e)
settled_ends p h new operation units o false is e = inr (is, (let this : answer_outcome new operation ≡ o = cc in sym this))

pub ends : (p : Part) (h : Holdings) (operation : Operation) (o : Outcome) → (at : OperationGoes p h operation o) → LogGoes p h at.new operation at.units o ⊎ ((changes operation ≡ false) × (o ≡ answer_outcome at.new operation))
ends p h operation o at = settled_ends p h at.new operation at.units o (changes operation) refl at.settles

-- ---- outcome by outcome

need_at : (p : Part) (h : Holdings) (call : Call) (need : Need) (c : PlanSteps Outcome) → course p h call ≡ c → end_of c ≡ outcomes.Need need → course p h call ≡ Lacks need
need_at p h call need (Goes o) is e =
    let at = course_goes p h call o is in
    elim (ends p h at.0 o at.2) [
      | inl log ↦ absurd (let clash : outcomes.Log log.change (reply_of at.0) (made_by at.2.new at.0) (change_of at.2.new at.0) ≡ outcomes.Need need = sym log.is ∙ e in cc)
      | inr told ↦ absurd (let clash : answer_outcome at.2.new at.0 ≡ outcomes.Need need = sym told.1 ∙ e in cc)
    ]
need_at p h call need (Refuses r) is e = absurd (cc)
need_at p h call need (Lacks n) is e = let same : n ≡ need = cc in is ∙ ap (λ z. Lacks z) same

pub need_is : (p : Part) (h : Holdings) (call : Call) (need : Need) → outcome p h call ≡ outcomes.Need need → course p h call ≡ Lacks need
need_is p h call need e = need_at p h call need (course p h call) refl e

-- a reply is an error, or that of an operation that changes nothing
pub data Answer (p : Part) (h : Holdings) (call : Call) (reply : Reply) (change : Option DescriptorChange) : Type 0 where
  Error : (e : Errno) → course p h call ≡ Refuses e → reply ≡ Failed e → change ≡ None → Answer p h call reply change
  Told : (o : Outcome) → course p h call ≡ Goes o → o ≡ outcomes.Reply reply change → Answer p h call reply change

reply_at : (p : Part) (h : Holdings) (call : Call) (reply : Reply) (change : Option DescriptorChange) (c : PlanSteps Outcome) → course p h call ≡ c → end_of c ≡ outcomes.Reply reply change → Answer p h call reply change
reply_at p h call reply change (Goes o) is e = Told o is e
reply_at p h call reply change (Refuses r) is e =
    let told : outcomes.Reply (Failed r) None ≡ outcomes.Reply reply change = e in
    Error r is (let this : Failed r ≡ reply = cc in sym this) (let this : None ≡ change = cc in sym this)
reply_at p h call reply change (Lacks n) is e = absurd (cc)

pub reply_is : (p : Part) (h : Holdings) (call : Call) (reply : Reply) (change : Option DescriptorChange) → outcome p h call ≡ outcomes.Reply reply change → Answer p h call reply change
reply_is p h call reply change e = reply_at p h call reply change (course p h call) refl e

log_at : (p : Part) (h : Holdings) (call : Call) (entry : Record) (reply : Reply) (made : Option ℕ) (change : Option DescriptorChange) (c : PlanSteps Outcome) → course p h call ≡ c → end_of c ≡ outcomes.Log entry reply made change → course p h call ≡ Goes (outcomes.Log entry reply made change)
log_at p h call entry reply made change (Goes o) is e = is ∙ ap (λ z. Goes z) e
log_at p h call entry reply made change (Refuses r) is e = absurd (cc)
log_at p h call entry reply made change (Lacks n) is e = absurd (cc)

pub log_is : (p : Part) (h : Holdings) (call : Call) (entry : Record) (reply : Reply) (made : Option ℕ) (change : Option DescriptorChange) → outcome p h call ≡ outcomes.Log entry reply made change → course p h call ≡ Goes (outcomes.Log entry reply made change)
log_is p h call entry reply made change e = log_at p h call entry reply made change (course p h call) refl e

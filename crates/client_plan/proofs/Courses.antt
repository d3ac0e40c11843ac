-- How a result that is made step by step stands to a course of conditions.
use Rattle.std.proofs.Common.{◌≡◌, ◌⊎◌, inl, inr, Bool, true, false, refl, Result, Ok, Err, ap, sym, ◌∙◌, subst}
use Rattle.std.specs.Result.{IsErrAnd}
use Rattle.std.proofs.lemmas.Result.{err_from_is_err_and}
use Rattle.posix_calls.specs.declared.errno.Errno.{Errno}
use Rattle.posix_calls.specs.declared.operation.DecideError.{DecideError}
use Rattle.posix_calls.specs.declared.operation.DecideError.TheVariants as why
use Rattle.posix_calls.specs.Query.{Query}
use Rattle.posix_calls.specs.Part.{Part}
use Rattle.posix_calls.specs.Answers.{IsAnswer}
use Rattle.client_plan.specs.declared.need.Need.{Need}
use Rattle.client_plan.specs.declared.stop.Stop.{Stop}
use Rattle.client_plan.specs.declared.stop.Stop.TheVariants as stop
use Rattle.client_plan.specs.PlanSteps.{PlanSteps, Goes, Refuses, Lacks, ◌>>=◌, unless, Comes}
use Rattle.client_plan.specs.Holdings.{Holdings}
use Rattle.client_plan.specs.NeedOrder.{found_step, look_step, stop_at}

-- ---- what a result tells

pub comes_goes : {A : Type 0} {c : PlanSteps A} {x : A} → c ≡ Goes x → Comes c (Ok x)
comes_goes {x = x} is = record { goes = λ y h. let same : x ≡ y = cc in is ∙ ap (λ z. Goes z) same; refuses = λ e h. absurd (cc); lacks = λ n h. absurd (cc) }

pub comes_refuses : {A : Type 0} {c : PlanSteps A} {e : Errno} → c ≡ Refuses e → Comes c (Err (stop.Refused e))
comes_refuses {e = e} is = record { goes = λ y h. absurd (cc); refuses = λ d h. let same : e ≡ d = cc in is ∙ ap (λ z. Refuses z) same; lacks = λ n h. absurd (cc) }

pub comes_lacks : {A : Type 0} {c : PlanSteps A} {need : Need} → c ≡ Lacks need → Comes c (Err (stop.Lacks need))
comes_lacks {need = need} is = record { goes = λ y h. absurd (cc); refuses = λ d h. absurd (cc); lacks = λ n h. let same : need ≡ n = cc in is ∙ ap (λ z. Lacks z) same }

-- want of memory says nothing
pub comes_memory : {A : Type 0} (c : PlanSteps A) → Comes c (Err stop.Memory)
comes_memory c = record { goes = λ y h. absurd (cc); refuses = λ d h. absurd (cc); lacks = λ n h. absurd (cc) }

-- what comes to the same is told by the same
pub comes_same : {A : Type 0} {c d : PlanSteps A} {r : Result A Stop} → c ≡ d → Comes d r → Comes c r
comes_same is h = record { goes = λ x e. is ∙ h.goes x e; refuses = λ e t. is ∙ h.refuses e t; lacks = λ n t. is ∙ h.lacks n t }

-- ---- one after another

pub then_goes : {A B : Type 0} {c : PlanSteps A} (f : A → PlanSteps B) {x : A} {r : Result B Stop} → Comes c (Ok x) → Comes (f x) r → Comes (c >>= f) r
then_goes f {x = x} h rest = comes_same (ap (λ z. z >>= f) (h.goes x refl)) rest

pub then_stops : {A B : Type 0} {c : PlanSteps A} (f : A → PlanSteps B) {s : Stop} → Comes c (Err s) → Comes (c >>= f) (Err s)
then_stops f {s = stop.Refused e} h = comes_refuses (ap (λ z. z >>= f) (h.refuses e refl))
then_stops f {s = stop.Lacks need} h = comes_lacks (ap (λ z. z >>= f) (h.lacks need refl))
then_stops {c = c} f {s = stop.Memory} h = comes_memory (c >>= f)

-- the exit of a `?` tells what was told there
pub exits : {A : Type 0} {c : PlanSteps A} {r : Result A Stop} {s : Stop} → IsErrAnd r (λ t. t ≡ s) → Comes c (Err s) → Comes c r
exits {c = c} {r = r} is h = let e = err_from_is_err_and r is in subst (λ z. Comes c z) (sym (e.1 ∙ ap (λ z. Err z) e.2)) h

-- ---- a test

pub holds : {b : Bool} (need : Need) → b ≡ true → Comes (unless b need) (Ok tt)
holds need is = comes_goes (ap (λ t. unless t need) is)

pub fails : {b : Bool} (need : Need) → b ≡ false → Comes (unless b need) (Err (stop.Lacks need))
fails need is = comes_lacks (ap (λ t. unless t need) is)

-- ---- what questions come to

pub tells_goes : {A : Type 0} {p : Part} (h : Holdings) {q : Query A} {x : A} → IsAnswer p q (Ok x) → Comes (look_step p h q) (Ok x)
tells_goes h {x = x} t = comes_goes (ap (found_step h) (t.gives x refl))

pub tells_stops : {A : Type 0} {p : Part} (h : Holdings) {q : Query A} {w : DecideError} → IsAnswer p q (Err w) → Comes (look_step p h q) (Err (stop_at h w))
tells_stops h {w = why.Refused e} t = comes_refuses (ap (found_step h) (t.refuses e refl))
tells_stops h {w = why.Missing what} t = comes_lacks (ap (found_step h) (t.missing what refl))
tells_stops {p = p} h {q = q} {w = why.Memory} t = comes_memory (look_step p h q)

-- ---- why a course stops

-- it lacks something at first, or after what it went on with
pub lacks_where : {A B : Type 0} (c : PlanSteps A) (f : A → PlanSteps B) (need : Need) → (c >>= f) ≡ Lacks need → (c ≡ Lacks need) ⊎ ((x : A) × (c ≡ Goes x) × (f x ≡ Lacks need))
lacks_where (Goes x) f need e = inr (x, refl, e)
lacks_where (Refuses r) f need e = absurd (cc)
lacks_where (Lacks n) f need e = let same : n ≡ need = cc in inl (ap (λ z. Lacks z) same)

pub refuses_where : {A B : Type 0} (c : PlanSteps A) (f : A → PlanSteps B) (r : Errno) → (c >>= f) ≡ Refuses r → (c ≡ Refuses r) ⊎ ((x : A) × (c ≡ Goes x) × (f x ≡ Refuses r))
refuses_where (Goes x) f r e = inr (x, refl, e)
refuses_where (Refuses s) f r e = let same : s ≡ r = cc in inl (ap (λ z. Refuses z) same)
refuses_where (Lacks n) f r e = absurd (cc)

pub goes_where : {A B : Type 0} (c : PlanSteps A) (f : A → PlanSteps B) (y : B) → (c >>= f) ≡ Goes y → (x : A) × (c ≡ Goes x) × (f x ≡ Goes y)
goes_where (Goes x) f y e = (x, refl, e)
goes_where (Refuses s) f y e = absurd (cc)
goes_where (Lacks n) f y e = absurd (cc)

-- a test that fails lacks this, and one that goes on holds
pub unless_lacks : (b : Bool) (need n : Need) → unless b need ≡ Lacks n → (b ≡ false) × (need ≡ n)
unless_lacks true need n e = absurd (cc)
unless_lacks false need n e = (refl, cc)

pub unless_goes : (b : Bool) (need : Need) (u : Unit {0}) → unless b need ≡ Goes u → b ≡ true
unless_goes true need u e = refl
unless_goes false need u e = absurd (cc)

pub unless_never_refuses : (b : Bool) (need : Need) (r : Errno) → unless b need ≡ Refuses r → ⊥
unless_never_refuses true need r e = absurd (cc)
unless_never_refuses false need r e = absurd (cc)

-- A call's conditions, one after the other: the first that does not hold ends it.
use Rattle.std.specs.Prelude.{◌≡◌, Bool, true, false, None, Result, Ok, Err}
use Rattle.posix_calls.specs.declared.errno.Errno.{Errno}
use Rattle.posix_calls.specs.declared.call.Reply.TheVariants as reply
use Rattle.client_plan.specs.declared.need.Need.{Need}
use Rattle.client_plan.specs.declared.outcome.Outcome.{Outcome}
use Rattle.client_plan.specs.declared.outcome.Outcome.TheVariants as outcome
use Rattle.client_plan.specs.declared.stop.Stop.{Stop}
use Rattle.client_plan.specs.declared.stop.Stop.TheVariants as stop

-- it goes on with what was found, the call is refused, or this is lacking
pub data PlanSteps (A : Type 0) : Type 0 where
  Goes : (x : A) → PlanSteps A
  Refuses : (e : Errno) → PlanSteps A
  Lacks : (need : Need) → PlanSteps A

-- first this, and where it goes on then that
infixl 10 ◌>>=◌
abbrev pub ◌>>=◌ : {A B : Type 0} → PlanSteps A → (A → PlanSteps B) → PlanSteps B
(Goes x) >>= f = f x
(Refuses e) >>= f = Refuses e
(Lacks need) >>= f = Lacks need

-- this is lacking, unless the test holds
abbrev pub unless : Bool → Need → PlanSteps (Unit {0})
unless true need = Goes tt
unless false need = Lacks need

-- what it comes to
abbrev pub end_of : PlanSteps Outcome → Outcome
end_of (Goes o) = o
end_of (Refuses e) = outcome.Reply (reply.Failed e) None
end_of (Lacks need) = outcome.Need need

-- a result is what the course comes to; want of memory says nothing
pub record Comes {A : Type 0} (c : PlanSteps A) (result : Result A Stop) : Type 0 where
  pub goes : (x : A) → result ≡ Ok x → c ≡ Goes x
  pub refuses : (e : Errno) → result ≡ Err (stop.Refused e) → c ≡ Refuses e
  pub lacks : (need : Need) → result ≡ Err (stop.Lacks need) → c ≡ Lacks need

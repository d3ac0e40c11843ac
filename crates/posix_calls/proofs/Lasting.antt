-- A step, and so a run, leaves a well-formed state well-formed.
use Rattle.std.proofs.Common.{◌≡◌, inl, inr, ℕ, ◌≤◌, List, [], ◌∷◌, refl, Ok, Err, Result, cond, sym, subst, true, false, Bool}
use Rattle.std.specs.Prelude.{◌&&◌, nat_le}
use Rattle.std.proofs.lemmas.Bool.{leb-true}
use Rattle.posix_calls.specs.declared.errno.Errno.{Errno}
use Rattle.posix_calls.specs.declared.errno.Errno.TheVariants as errno
use Rattle.posix_calls.specs.declared.call.Call.{Call}
use Rattle.posix_calls.specs.declared.call.Reply.{Reply}
use Rattle.posix_calls.specs.Tree.{State}
use Rattle.posix_calls.specs.Query.{run, view_of}
use Rattle.posix_calls.specs.Decide.{decide}
use Rattle.posix_calls.specs.declared.operation.Operation.{Operation}
use Rattle.posix_calls.specs.Operations.{is_client, answer, Follows, Step}
use Rattle.posix_calls.specs.Run.{Turn, Asked, Departs, Takes, Run}
use Rattle.posix_calls.specs.WellFormed.{IsWellFormed}
use Rattle.posix_calls.proofs.Fits.{Fits, operation_fine}
use Rattle.posix_calls.proofs.Calls.{decide_fits}
use Rattle.posix_calls.proofs.Settled.{departed_fine}

both : (a b : Bool) → (a && b) ≡ true → (a ≡ true) × (b ≡ true)
both true b e = (refl, e)
both false b e = absurd (cc)

-- an answer that is no error came of a client's call
pub record IsAnswered (s : State) (client : ℕ) (c : Call) (operation : Operation) : Type 0 where
  pub low : 1 ≤ client
  pub high : client ≤ 8
  pub is : run (view_of s.tree) (decide (s.descriptors client) c) ≡ Ok operation

pub answered : (s : State) (client : ℕ) (c : Call) (operation : Operation) → answer s client c ≡ Ok operation → IsAnswered s client c operation
answered s client c operation e = elim (is_client client) as (λ b. is_client client ≡ b → ◌≡◌ {A = Result Operation Errno} (cond b (run (view_of s.tree) (decide (s.descriptors client) c)) (Err errno.Invalid)) (Ok operation) → IsAnswered s client c operation) [
  | true ↦ λ is came. let r = both (nat_le 1 client) (nat_le client 8) is in record { low = leb-true 1 client r.0; high = leb-true client 8 r.1; is = came }
  | false ↦ λ is came. absurd (cc)
] refl e

follows_fine : (s : State) (client new : ℕ) (a : Result Operation Errno) (r : Reply) (after : State) → IsWellFormed s → ((operation : Operation) → a ≡ Ok operation → (1 ≤ client) × (client ≤ 8) × Fits s.tree (s.descriptors client) operation) → Follows s client new a r after → IsWellFormed after
follows_fine s client new (Err e) r after fine fits f = subst IsWellFormed (sym f.1) fine
follows_fine s client new (Ok operation) r after fine fits f = let at = fits operation refl in subst IsWellFormed (sym f.2) (operation_fine s client new operation fine at.0 at.1 at.2 f.0)

-- a step leaves the state well-formed
pub step_fine : (old : State) (client : ℕ) (c : Call) (r : Reply) (after : State) → IsWellFormed old → Step old client c r after → IsWellFormed after
step_fine old client c r after fine (inl f) = follows_fine old client f.0 (answer old client c) r after fine (λ operation e. let is = answered old client c operation e in (is.low, is.high, decide_fits old fine client c operation is.is)) f.1
step_fine old client c r after fine (inr g) = subst IsWellFormed (sym g.3) fine

-- so does a turn, and a run
pub turn_fine : (old : State) (turn : Turn) (after : State) → IsWellFormed old → Takes old turn after → IsWellFormed after
turn_fine old (Asked client call reply) after fine e = step_fine old client call reply after fine e
turn_fine old (Departs client) after fine e = subst IsWellFormed (sym e) (departed_fine old client fine)

pub run_fine : (turns : List Turn) (old last : State) → IsWellFormed old → Run old turns last → IsWellFormed last
run_fine [] old last fine e = subst IsWellFormed (sym e) fine
run_fine (turn ∷ turns) old last fine e = run_fine turns e.0 last (turn_fine old turn e.0 fine e.1) e.2

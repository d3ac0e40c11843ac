-- The calls that are not answered, once that of one client is another or none.
use Rattle.std.proofs.Common.{◌≡◌, ◌≢◌, inl, inr, ℕ, ◌-◌, ◌≤◌, ◌<◌, cond, true, false, List, length, Option, None, refl, ap, sym, ◌∙◌, arith}
use Rattle.std.specs.Prelude.{get_or, nat_le}
use Rattle.std.proofs.lemmas.Bool.{and_parts}
use Rattle.std.proofs.lemmas.Bool.Decides.{eqb_tells, nat_tests}
use Rattle.std.proofs.lemmas.List.{get_or-set_other, get_or-set_same, length-set}
use Rattle.posix_calls.specs.Operations.{is_client}
use Rattle.posix_calls.specs.Outcome.{without_call}
use Rattle.posix_calls.specs.declared.call.Call.{Call}
use Rattle.posix_calls.specs.declared.limits.TheConstants.{MAX_CLIENTS}
use Rattle.event_steps.specs.View.{SystemView}
use Rattle.system_laws.specs.KeptCalls.{set_call}
use Rattle.system_laws.specs.WorldView.{calls_of}
use Rattle.system_laws.proofs.Seats.{at_least}

at_most : (c : ℕ) → is_client c ≡ true → c ≤ 8
at_most c is = let high = and_parts (nat_le 1 c) (nat_le c 8) is in grind (arith, nat_tests, high.1)

one_of : (c d : ℕ) → 1 ≤ c → 1 ≤ d → d - 1 ≡ c - 1 → d ≡ c
one_of c d low_c low_d same = omega (arith, low_c, low_d, same)

module _ {M : Type 0} (w : SystemView M) (calls : List (Option Call)) (eight : length calls ≡ MAX_CLIENTS) (c : ℕ) (is_c : is_client c ≡ true) (call : Option Call) where
  within : c - 1 < length calls
  within = let low = at_least c is_c in let high = at_most c is_c in let long : length calls ≡ 8 = eight in omega (arith, low, high, long)

  -- the client's is the new one
  pub set_there : calls_of (record { system = w; calls = set_call calls c call }) c ≡ call
  set_there = ap (λ b. cond b (get_or (set_call calls c call) (c - 1) None) None) is_c ∙ get_or-set_same calls (c - 1) call None within

  -- and every other's is as it was
  pub set_beside : (d : ℕ) → d ≢ c → calls_of (record { system = w; calls = set_call calls c call }) d ≡ calls_of (record { system = w; calls = calls }) d
  set_beside d off = elim (is_client d) as (λ b. is_client d ≡ b → cond b (get_or (set_call calls c call) (d - 1) None) None ≡ cond b (get_or calls (d - 1) None) None) [
    | true ↦ λ is_d. get_or-set_other calls (c - 1) (d - 1) call None (λ same. off (one_of c d (at_least c is_c) (at_least d is_d) same))
    | false ↦ λ no. refl
  ] refl

  pub set_long : length (set_call calls c call) ≡ MAX_CLIENTS
  set_long = length-set calls (c - 1) call ∙ eight

-- an answered call is unfinished no more
pub call_taken : {M : Type 0} (w : SystemView M) (calls : List (Option Call)) → length calls ≡ MAX_CLIENTS → (c : ℕ) → is_client c ≡ true
    → calls_of (record { system = w; calls = set_call calls c None }) ≡ without_call (calls_of (record { system = w; calls = calls })) c
call_taken {M = M} w calls eight c is_c = λ t d. at d t
  where
    at : (d : ℕ) → calls_of (record { system = w; calls = set_call calls c None }) d ≡ without_call (calls_of (record { system = w; calls = calls })) c d
    at d = elim (eqb_tells d c) [
      | inl same ↦ ap (calls_of (record { system = w; calls = set_call calls c None })) same.1 ∙ set_there w calls eight c is_c None ∙ sym (ap (λ b. cond b None (calls_of (record { system = w; calls = calls }) d)) same.0)
      | inr off ↦ set_beside w calls eight c is_c None d off.1 ∙ sym (ap (λ b. cond b None (calls_of (record { system = w; calls = calls }) d)) off.0)
    ]

-- What was shown of clients one after the other.
use Rattle.std.proofs.Common.{◌≡◌, ◌≢◌, inl, inr, ℕ, ◌+◌, ◌-◌, ◌<◌, ◌≤◌, true, [], ◌∷◌, Some, refl, subst, sym, arith}
use Rattle.std.specs.Prelude.{nat_le, slice_get}
use Rattle.std.proofs.lemmas.Bool.{and_parts}
use Rattle.std.proofs.lemmas.Bool.Decides.{eqb_tells, nat_tests}
use Rattle.posix_calls.specs.Operations.{is_client}
use Rattle.system_laws.specs.event_steps.View.{SystemView}
use Rattle.system_laws.specs.Leaves.{HasMetAll, HaveMet}

pub at_least : (c : ℕ) → is_client c ≡ true → 1 ≤ c
at_least c is = let low = and_parts (nat_le 1 c) (nat_le c 8) is in grind (arith, nat_tests, low.0)

pub at_most : (c : ℕ) → is_client c ≡ true → c < 9
at_most c is = let high = and_parts (nat_le 1 c) (nat_le c 8) is in grind (arith, nat_tests, high.1)

-- it holds of those below n and of n
pub with_next : (P : ℕ → Type 0) (n : ℕ) → ((d : ℕ) → 1 ≤ d → d < n → P d) → P n → (d : ℕ) → 1 ≤ d → d < n + 1 → P d
with_next P n below here d low high = elim (eqb_tells d n) [
  | inl same ↦ subst P (sym same.1) here
  | inr other ↦ below d low (beneath other.1)
]
  where
    beneath : d ≢ n → d < n
    beneath off = omega (arith, high, off)

-- who has met all above it and all below it has met all
pub met_all : {M : Type 0} (w : SystemView M) (c n : ℕ) → 9 ≤ n → ((d : ℕ) → 1 ≤ d → d < n → c < d → HaveMet w c d) → ((d : ℕ) → 1 ≤ d → d < n → d < c → HaveMet w d c) → HasMetAll w c
met_all w c n nine above below low high is_low is_high order (inl is) = subst (λ (k : ℕ). HaveMet w k high) (sym is) (above high (at_least high is_high) (beyond (at_most high is_high)) (subst (λ (k : ℕ). k < high) is order))
  where
    beyond : high < 9 → high < n
    beyond most = omega (arith, nine, most)
met_all w c n nine above below low high is_low is_high order (inr is) = subst (λ (k : ℕ). HaveMet w low k) (sym is) (below low (at_least low is_low) (beyond (at_most low is_low)) (subst (λ (k : ℕ). low < k) is order))
  where
    beyond : low < 9 → low < n
    beyond most = omega (arith, nine, most)

-- what holds of all below nine holds of each client
pub each_below : (P : ℕ → Type 0) (n : ℕ) → 9 ≤ n → ((d : ℕ) → 1 ≤ d → d < n → P d) → (d : ℕ) → is_client d ≡ true → P d
each_below P n nine below d is = below d (at_least d is) (beyond (at_most d is))
  where
    beyond : d < 9 → d < n
    beyond most = omega (arith, nine, most)

-- eight values, one for each client, are those at their numbers
pub each_of_eight : {A : Type 0} (f : ℕ → A) (c : ℕ) → is_client c ≡ true → slice_get (f 1 ∷ f 2 ∷ f 3 ∷ f 4 ∷ f 5 ∷ f 6 ∷ f 7 ∷ f 8 ∷ []) (c - 1) ≡ Some (f c)
each_of_eight f c is = each_below IsThere 9 (omega arith) (with_next IsThere 8 (with_next IsThere 7 (with_next IsThere 6 (with_next IsThere 5 (with_next IsThere 4 (with_next IsThere 3 (with_next IsThere 2 (with_next IsThere 1 nobody refl) refl) refl) refl) refl) refl) refl) refl) c is
  where
    IsThere : ℕ → Type 0
    IsThere d = slice_get (f 1 ∷ f 2 ∷ f 3 ∷ f 4 ∷ f 5 ∷ f 6 ∷ f 7 ∷ f 8 ∷ []) (d - 1) ≡ Some (f d)

    nobody : (d : ℕ) → 1 ≤ d → d < 1 → IsThere d
    nobody d low high = absurd (omega (arith, low, high))

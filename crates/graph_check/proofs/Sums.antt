-- Sums over the numbers from 1 on, and the last of them that passes.
use Rattle.std.proofs.Common.{◌≡◌, ℕ, zero, suc, ◌<◌, ◌≤◌, refl, ap, sym, ◌∙◌, subst, true, false, Bool, arith, if◌then◌else◌}
use Rattle.std.specs.Prelude.{nat_lt}
use Rattle.std.proofs.Math.Decide.{dec_le}
use Rattle.posix_calls.specs.Tree.{sum_up_to}
use Rattle.graph_check.specs.Tables.{last_up_to}

-- one of the numbers
pub term_below : (n : ℕ) (f : ℕ → ℕ) (d : ℕ) → 1 ≤ d → d ≤ n → f d ≤ sum_up_to n f
unfolding sum_up_to
term_below zero f d low high = absurd (omega arith)
term_below (suc n) f d low high = elim (dec_le d n) [
  | yes inside ↦ let rest = term_below n f d low inside in omega (arith, rest)
  | no outside ↦ let last : f d ≡ f (suc n) = ap f (let e : d ≡ suc n = omega (arith, outside) in e) in omega (arith, last)
]

abbrev some : (ℕ → ℕ) → ℕ → Bool
some f d = nat_lt 0 (f d)

-- the last number at which there is something
pub record IsLast (n : ℕ) (f : ℕ → ℕ) : Type 0 where
  pub low : 1 ≤ last_up_to n (some f)
  pub high : last_up_to n (some f) ≤ n
  pub here : 0 < f (last_up_to n (some f))

lt_true : (a b : ℕ) → nat_lt a b ≡ true → a < b
lt_true a b e = grind arith

lt_false : (a b : ℕ) → nat_lt a b ≡ false → b ≤ a
lt_false a b e = grind arith

true_lt : (a b : ℕ) → a < b → nat_lt a b ≡ true
true_lt a b h = grind arith

-- where the sum is of something, there is a last one
pub last_there : (n : ℕ) (f : ℕ → ℕ) → 0 < sum_up_to n f → IsLast n f
unfolding sum_up_to last_up_to
last_there zero f more = absurd (omega arith)
last_there (suc n) f more =
    let here = elim (nat_lt 0 (f (suc n))) as (λ b. nat_lt 0 (f (suc n)) ≡ b → (1 ≤ (if b then suc n else last_up_to n (some f))) × ((if b then suc n else last_up_to n (some f)) ≤ suc n) × (0 < f (if b then suc n else last_up_to n (some f)))) [
      | true ↦ λ is. (omega arith, omega arith, lt_true 0 (f (suc n)) is)
      | false ↦ λ is.
          let none = lt_false 0 (f (suc n)) is in
          let r = last_there n f (omega (arith, none)) in
          let high = r.high in
          (r.low, omega (arith, high), r.here)
    ] refl in
    record { low = here.0; high = here.1; here = here.2 }

-- where the sum is 1, the one number at which there is something is the last
pub last_only : (n : ℕ) (f : ℕ → ℕ) (d : ℕ) → 1 ≤ d → d ≤ n → 0 < f d → sum_up_to n f ≡ 1 → last_up_to n (some f) ≡ d
unfolding sum_up_to last_up_to
last_only zero f d low high here one = absurd (omega arith)
last_only (suc n) f d low high here one = elim (dec_le d n) [
  | yes inside ↦
      let term = term_below n f d low inside in
      let none : f (suc n) ≡ 0 = omega (arith, term) in
      let rest : sum_up_to n f ≡ 1 = omega (arith, none) in
      ap (λ m. if nat_lt 0 m then suc n else last_up_to n (some f)) none ∙ last_only n f d low inside here rest
  | no outside ↦
      let last : d ≡ suc n = omega (arith, outside) in
      let more : 0 < f (suc n) = subst (λ m. 0 < f m) last here in
      ap (λ b. if b then suc n else last_up_to n (some f)) (true_lt 0 (f (suc n)) more) ∙ sym last
]

-- Questions in the order of the inodes.
use Rattle.std.proofs.Common.{◌≡◌, ℕ, zero, suc, ◌-◌, ◌≤◌, List, [], ◌∷◌, ◌++◌, Option, None, ap, subst, arith}
use Rattle.graph_check.specs.Questions.{down_from}

down_one : (i : ℕ) → 1 ≤ i → i ∷ down_from (i - 1) ≡ down_from i
unfolding down_from
down_one zero low = absurd (omega arith)
down_one (suc n) low = ap (λ m. suc n ∷ down_from m) (let e : suc n - 1 ≡ n = omega arith in e)

module _ {S E : Type 0} (asked : S → S → List ℕ → Option E → Type 0) (more : (first next last : S) (before behind : List ℕ) (refusal : Option E) → asked first next before None → asked next last behind refusal → asked first last (behind ++ before) refusal) where
  -- one more question
  pub asked_next : (first next last : S) (i : ℕ) (refusal : Option E) → 1 ≤ i → asked first next (down_from (i - 1)) None → asked next last (i ∷ []) refusal → asked first last (down_from i) refusal
  asked_next first next last i refusal low before now = subst (λ is. asked first last is refusal) (down_one i low) (more first next last (down_from (i - 1)) (i ∷ []) refusal before now)

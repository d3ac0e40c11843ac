-- A row that one item is put behind.
use Rattle.std.proofs.Common.{◌≡◌, ◌++◌, ℕ, zero, suc, List, [], ◌∷◌, length, subst}
use Rattle.std.proofs.lemmas.Option.{same_Some}
use Rattle.std.specs.Prelude.{None, Some, slice_get}

pub none_is_some : {X : Type 0} (x : X) → None ≡ Some x → ⊥
none_is_some x is = absurd (cc)

-- what is so of each item at its place is so with one more
pub each_pushed : {X : Type 0} (P : ℕ → X → Type 0) (xs : List X) (y : X) → ((k : ℕ) (x : X) → slice_get xs k ≡ Some x → P k x) → P (length xs) y → (k : ℕ) (x : X) → slice_get (xs ++ y ∷ []) k ≡ Some x → P k x
each_pushed P [] y each one zero x is = subst (P 0) (same_Some y x is) one
each_pushed P [] y each one (suc k) x is = absurd (none_is_some x is)
each_pushed P (z ∷ zs) y each one zero x is = each zero x is
each_pushed P (z ∷ zs) y each one (suc k) x is = each_pushed (λ j. P (suc j)) zs y (λ j. each (suc j)) one k x is

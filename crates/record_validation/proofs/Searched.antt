-- A search in numbers that rise finds one exactly where it is among them.
use Rattle.std.proofs.Common.{◌≡◌, ◌≢◌, ◌≤◌, ◌<◌, inl, inr, ℕ, zero, suc, ◌==◌, ◌||◌, Bool, true, false, List, [], ◌∷◌, length, get_or, refl, ap, sym, ◌∙◌, arith}
use Rattle.std.specs.Prelude.{Result, Ok, Err, is_ok}
use Rattle.std.specs.Ordering.{nat_cmp}
use Rattle.std.specs.List.Sorted.{IsBinarySearchResult, IsNonDecreasing}
use Rattle.std.proofs.lemmas.Bool.Decides.{eqb_tells, leb_tells}
use Rattle.std.proofs.lemmas.List.Sorted.{searched}
use Rattle.call_effects.specs.file_graph.Graph.{is_among}

or_right : (b c : Bool) → c ≡ true → (b || c) ≡ true
or_right true c e = refl
or_right false c e = e

found : (xs : List ℕ) (i x : ℕ) → i < length xs → get_or xs i 0 ≡ x → is_among x xs ≡ true
found [] i x inside is = absurd (omega (arith, inside))
found (y ∷ ys) zero x inside is = elim (eqb_tells y x) [
  | inl same ↦ ap (λ b. b || is_among x ys) same.0
  | inr apart ↦ absurd (apart.1 is)
]
found (y ∷ ys) (suc i) x inside is = or_right (y == x) (is_among x ys) (found ys i x (omega (arith, inside)) is)

absent : (xs : List ℕ) (x : ℕ) → ((k : ℕ) → k < length xs → get_or xs k 0 ≢ x) → is_among x xs ≡ false
absent [] x none = refl
absent (y ∷ ys) x none = elim (eqb_tells y x) [
  | inl same ↦ absurd (none 0 (omega arith) same.1)
  | inr apart ↦ ap (λ b. b || is_among x ys) apart.0 ∙ absent ys x (λ k inside. none (suc k) (omega (arith, inside)))
]

pub among_searched : (xs : List ℕ) (x : ℕ) (r : Result ℕ ℕ) → IsBinarySearchResult (λ y. nat_cmp y x) xs r → IsNonDecreasing xs → is_ok r ≡ is_among x xs
among_searched xs x (Ok i) answers rising = let at = searched xs x (Ok i) answers (λ a b le inside. rising a b 0 le inside) in sym (found xs i x at.0 at.1)
among_searched xs x (Err i) answers rising =
    let at = searched xs x (Err i) answers (λ a b le inside. rising a b 0 le inside) in
    sym (absent xs x (apart at.0 at.1 at.2))
  where
    apart : i ≤ length xs → ((k : ℕ) → k < i → get_or xs k 0 < x) → ((k : ℕ) → i ≤ k → k < length xs → x < get_or xs k 0) → (k : ℕ) → k < length xs → get_or xs k 0 ≢ x
    apart within below above k inside is = elim (leb_tells i k) [
      | inl behind ↦ absurd (omega (arith, above k behind.1 inside, is))
      | inr before ↦ absurd (omega (arith, below k before.1, is))
    ]

-- A test of all pairs of a list, whatever the order of the list.
use Rattle.std.proofs.Common.{◌≡◌, ℕ, zero, suc, ◌<◌, Bool, true, List, [], ◌∷◌, length, get_or, refl, sym, ap, subst, arith, ◌⊎◌, inl, inr}
use Rattle.std.specs.List.{list_all, swap}
use Rattle.std.specs.List.Sorted.{IsPermutation}
use Rattle.std.proofs.lemmas.Bool.{and_from, cases_eq}
use Rattle.std.proofs.lemmas.List.Edits.{swapped_from_swap, length-swap}
use Rattle.std.proofs.lemmas.List.Sorted.{IsPermutation-keeps, IsPermutation-sym}
use Rattle.layout.specs.Bytes.{all_pairs}
use Rattle.layout.proofs.Limits.{and_parts}

-- a test holds at every place, and back
pub all_at : {A : Type 0} (p : A → Bool) (xs : List A) (k : ℕ) (d : A) → list_all p xs ≡ true → k < length xs → p (get_or xs k d) ≡ true
all_at p [] k d h lt = absurd (omega arith)
all_at p (x ∷ xs) zero d h lt = (and_parts (p x) (list_all p xs) h).0
all_at p (x ∷ xs) (suc k) d h lt = all_at p xs k d (and_parts (p x) (list_all p xs) h).1 (omega arith)

pub all_from : {A : Type 0} (p : A → Bool) (xs : List A) → ((k : ℕ) (d : A) → k < length xs → p (get_or xs k d) ≡ true) → list_all p xs ≡ true
all_from p [] h = refl
all_from p (x ∷ xs) h = and_from _ _ (h 0 x (omega arith)) (all_from p xs (λ k d lt. h (suc k) d (omega arith)))

-- the test holds of any two places
abbrev AtAnyTwo : {A : Type 0} → (A → A → Bool) → List A → Type 0
AtAnyTwo {A = A} test xs = (i j : ℕ) (d : A) → i < length xs → j < length xs → (i ≡ j → ⊥) → test (get_or xs i d) (get_or xs j d) ≡ true

-- an exchange of two places brings place m to place k
abbrev Sent : ℕ → ℕ → ℕ → ℕ → Type 0
Sent a b k m = ((k ≡ a) × (m ≡ b)) ⊎ (((k ≡ b) × (m ≡ a)) ⊎ ((m ≡ k) × (k ≡ a → ⊥) × (k ≡ b → ⊥)))

sent_below : (a b k m n : ℕ) → Sent a b k m → a < n → b < n → k < n → m < n
sent_below a b k m n s la lb lk = elim s [
  | inl e ↦ omega (arith, e)
  | inr t ↦ elim t [ inl e ↦ omega (arith, e) | inr e ↦ omega (arith, e) ]
]

sent_apart : (a b i j m n : ℕ) → Sent a b i m → Sent a b j n → (i ≡ j → ⊥) → m ≡ n → ⊥
sent_apart a b i j m n s t ne e = grind arith

came_from : {A : Type 0} (l : List A) (a b k : ℕ) (d : A) → a < length l → b < length l → (m : ℕ) × (get_or (swap l a b) k d ≡ get_or l m d) × Sent a b k m
came_from {A = A} l a b k d la lb =
    let s = swapped_from_swap l (swap l a b) a b d la lb refl in
    elim (cases_eq k a) [
      | inl e ↦ (b, subst (λ (n : ℕ). get_or (swap l a b) n d ≡ get_or l b d) (sym e) s.0, inl (e, refl))
      | inr na ↦ elim (cases_eq k b) [
        | inl e ↦ (a, subst (λ (n : ℕ). get_or (swap l a b) n d ≡ get_or l a d) (sym e) s.1, inr (inl (e, refl)))
        | inr nb ↦ (k, s.2 k na nb, inr (inr (refl, na, nb)))
      ]
    ]

-- a test of each element holds in any order
pub same_all : {A : Type 0} (p : A → Bool) (xs ys : List A) → IsPermutation xs ys → list_all p xs ≡ true → list_all p ys ≡ true
same_all {A = A} p xs ys perm h =
    IsPermutation-keeps xs (λ (l : List A). list_all p l ≡ true) h (λ l a b la lb t. all_from p (swap l a b) (λ k d lt.
    let m = came_from l a b k d la lb in
    let at : p (get_or l m.0 d) ≡ true = all_at p l m.0 d t (sent_below a b k m.0 (length l) m.2 la lb (omega (arith, length-swap l a b))) in
    rw m.1 at)) ys perm

module _ {A : Type 0} (test : A → A → Bool) (both : (a b : A) → test a b ≡ true → test b a ≡ true) where
  any_two : (xs : List A) → all_pairs test xs ≡ true → AtAnyTwo test xs
  any_two [] h i j d li lj ne = absurd (omega arith)
  any_two (x ∷ xs) h zero zero d li lj ne = absurd (ne refl)
  any_two (x ∷ xs) h zero (suc j) d li lj ne = all_at (test x) xs j d (and_parts (list_all (test x) xs) (all_pairs test xs) h).0 (omega arith)
  any_two (x ∷ xs) h (suc i) zero d li lj ne = both x (get_or xs i d) (all_at (test x) xs i d (and_parts (list_all (test x) xs) (all_pairs test xs) h).0 (omega arith))
  any_two (x ∷ xs) h (suc i) (suc j) d li lj ne = any_two xs (and_parts (list_all (test x) xs) (all_pairs test xs) h).1 i j d (omega arith) (omega arith) (λ e. ne (ap suc e))

  from_any_two : (xs : List A) → AtAnyTwo test xs → all_pairs test xs ≡ true
  from_any_two [] h = refl
  from_any_two (x ∷ xs) h =
      and_from _ _ (all_from (test x) xs (λ k d lt. h 0 (suc k) d (omega arith) (omega arith) (λ e. omega (arith, e))))
      (from_any_two xs (λ i j d li lj ne. h (suc i) (suc j) d (omega arith) (omega arith) (λ e. ne (omega (arith, e)))))

  swapped : (l : List A) (a b : ℕ) → a < length l → b < length l → AtAnyTwo test l → AtAnyTwo test (swap l a b)
  swapped l a b la lb h i j d li lj ne =
      let long = length-swap l a b in
      let p = came_from l a b i d la lb in
      let q = came_from l a b j d la lb in
      let fact : test (get_or l p.0 d) (get_or l q.0 d) ≡ true = h p.0 q.0 d (sent_below a b i p.0 (length l) p.2 la lb (omega (arith, long))) (sent_below a b j q.0 (length l) q.2 la lb (omega (arith, long))) (sent_apart a b i j p.0 q.0 p.2 q.2 ne) in
      rw (p.1, q.1) fact

  pub same_pairs : (xs ys : List A) → IsPermutation xs ys → all_pairs test ys ≡ true → all_pairs test xs ≡ true
  same_pairs xs ys perm h =
      from_any_two xs (IsPermutation-keeps ys (AtAnyTwo test) (any_two ys h) swapped xs (IsPermutation-sym xs ys perm))

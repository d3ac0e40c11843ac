-- Counting by lists that cover.
use Rattle.std.proofs.Common.{◌≡◌, ◌≢◌, ◌≤◌, ◌<◌, ◌+◌, ◌*◌, inl, inr, ◌⊎◌, ℕ, zero, suc, List, [], ◌∷◌, ◌++◌, length, refl, sym, ap, ◌∙◌, arith, subst}
use Rattle.std.specs.List.{Contains}
use Rattle.std.proofs.lemmas.Bool.{cases_eq}
use Rattle.std.proofs.lemmas.List.{length-append}
use Rattle.std.proofs.lemmas.List.Elements.{Contains-append_left, Contains-append_right}
use Rattle.posix_calls.specs.Tree.{sum_up_to}
use Rattle.area_commit.proofs.Members.{cons_cases, cons_here, cons_there, nothing}

-- ---- lists of numbers

pub in_or_not : (xs : List ℕ) (k : ℕ) → Contains xs k ⊎ (Contains xs k → ⊥)
in_or_not [] k = inr (nothing k)
in_or_not (x ∷ xs) k = elim (cases_eq x k) [
  | inl here ↦ inl (cons_here x xs k here)
  | inr other ↦ elim (in_or_not xs k) [
    | inl there ↦ inl (cons_there x xs k there)
    | inr none ↦ inr (λ at. elim (cons_cases x xs k at) [ inl here ↦ other here | inr there ↦ none there ])
  ]
]

-- a list without one place at which a number stands
record Without (xs : List ℕ) (k : ℕ) : Type 0 where
  rest : List ℕ
  shorter : length xs ≡ suc (length rest)
  others : (j : ℕ) → j ≢ k → Contains xs j → Contains rest j

without : (xs : List ℕ) (k : ℕ) → Contains xs k → Without xs k
without [] k at = absurd (nothing k at)
without (x ∷ xs) k at = elim (cons_cases x xs k at) [
  | inl here ↦ record { rest = xs; shorter = refl; others = λ j other there. elim (cons_cases x xs j there) [ inl same ↦ absurd (other (sym same ∙ here)) | inr later ↦ later ] }
  | inr later ↦
      let r : Without xs k = without xs k later in
      record {
        rest = x ∷ r.rest;
        shorter = ap suc r.shorter;
        others = λ j other there. elim (cons_cases x xs j there) [ inl same ↦ cons_here x r.rest j same | inr behind ↦ cons_there x r.rest j (r.others j other behind) ];
      }
]

-- a list that has each of so many numbers is as long
pub covers : (n first : ℕ) (xs : List ℕ) → ((k : ℕ) → first ≤ k → k < first + n → Contains xs k) → n ≤ length xs
covers zero first xs all = omega arith
covers (suc n) first xs all =
    let r : Without xs (first + n) = without xs (first + n) (all (first + n) (omega arith) (omega arith)) in
    let few : n ≤ length r.rest = covers n first r.rest (λ k low high. r.others k (λ same. omega (arith, high, same)) (all k low (omega (arith, high)))) in
    let one : length xs ≡ suc (length r.rest) = r.shorter in
    omega (arith, few, one)

-- ---- one list for each of the first numbers

abbrev pub pieces : ℕ → (ℕ → List ℕ) → List ℕ
pieces zero f = []
pieces (suc n) f = f (suc n) ++ pieces n f

pub in_pieces : (n : ℕ) (f : ℕ → List ℕ) (i k : ℕ) → 1 ≤ i → i ≤ n → Contains (f i) k → Contains (pieces n f) k
in_pieces zero f i k low high at = absurd (omega (arith, low, high))
in_pieces (suc n) f i k low high at = elim (cases_eq i (suc n)) [
  | inl last ↦ Contains-append_left (f (suc n)) (pieces n f) k (subst (λ j. Contains (f j) k) last at)
  | inr before ↦ Contains-append_right (f (suc n)) (pieces n f) k (in_pieces n f i k low (omega (arith, high, before)) at)
]

pub pieces_few : (n : ℕ) (f : ℕ → List ℕ) (most : ℕ → ℕ) → ((i : ℕ) → 1 ≤ i → i ≤ n → length (f i) ≤ most i) → length (pieces n f) ≤ sum_up_to n most
unfolding sum_up_to
pieces_few zero f most few = omega arith
pieces_few (suc n) f most few =
    let one : length (f (suc n)) ≤ most (suc n) = few (suc n) (omega arith) (omega arith) in
    let rest : length (pieces n f) ≤ sum_up_to n most = pieces_few n f most (λ i low high. few i low (omega (arith, high))) in
    let both : length (f (suc n) ++ pieces n f) ≡ length (f (suc n)) + length (pieces n f) = length-append (f (suc n)) (pieces n f) in
    omega (arith, one, rest, both)

pub three_few : (n : ℕ) (a b c : ℕ → List ℕ) (most : ℕ → ℕ) → ((i : ℕ) → 1 ≤ i → i ≤ n → length (a i) + length (b i) + length (c i) ≤ most i) → length (pieces n a) + length (pieces n b) + length (pieces n c) ≤ sum_up_to n most
unfolding sum_up_to
three_few zero a b c most few = omega arith
three_few (suc n) a b c most few =
    let one : length (a (suc n)) + length (b (suc n)) + length (c (suc n)) ≤ most (suc n) = few (suc n) (omega arith) (omega arith) in
    let rest : length (pieces n a) + length (pieces n b) + length (pieces n c) ≤ sum_up_to n most = three_few n a b c most (λ i low high. few i low (omega (arith, high))) in
    let long_a : length (a (suc n) ++ pieces n a) ≡ length (a (suc n)) + length (pieces n a) = length-append (a (suc n)) (pieces n a) in
    let long_b : length (b (suc n) ++ pieces n b) ≡ length (b (suc n)) + length (pieces n b) = length-append (b (suc n)) (pieces n b) in
    let long_c : length (c (suc n) ++ pieces n c) ≡ length (c (suc n)) + length (pieces n c) = length-append (c (suc n)) (pieces n c) in
    omega (arith, one, rest, long_a, long_b, long_c)

-- ---- sums

pub sum_same : (n : ℕ) (f g : ℕ → ℕ) → ((i : ℕ) → 1 ≤ i → i ≤ n → f i ≡ g i) → sum_up_to n f ≡ sum_up_to n g
unfolding sum_up_to
sum_same zero f g same = refl
sum_same (suc n) f g same =
    let one : f (suc n) ≡ g (suc n) = same (suc n) (omega arith) (omega arith) in
    let rest : sum_up_to n f ≡ sum_up_to n g = sum_same n f g (λ i low high. same i low (omega (arith, high))) in
    omega (arith, one, rest)

pub sum_ones : (n : ℕ) → sum_up_to n (λ i. 1) ≡ n
unfolding sum_up_to
sum_ones zero = refl
sum_ones (suc n) = let rest : sum_up_to n (λ i. 1) ≡ n = sum_ones n in omega (arith, rest)

pub sum_more : (n m : ℕ) (f : ℕ → ℕ) → sum_up_to n (λ i. f i + m) ≡ sum_up_to n f + m * n
unfolding sum_up_to
sum_more zero m f = omega arith
sum_more (suc n) m f =
    let rest : sum_up_to n (λ i. f i + m) ≡ sum_up_to n f + m * n = sum_more n m f in
    omega (arith, rest)

pub sum_times : (n m : ℕ) (f : ℕ → ℕ) → sum_up_to n (λ i. m * f i) ≡ m * sum_up_to n f
unfolding sum_up_to
sum_times zero m f = omega arith
sum_times (suc n) m f =
    let rest : sum_up_to n (λ i. m * f i) ≡ m * sum_up_to n f = sum_times n m f in
    omega (arith, rest)

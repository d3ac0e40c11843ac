-- The numbers of all inodes, rising.
use Rattle.std.proofs.Common.{◌≡◌, ◌⊎◌, inl, inr, ℕ, zero, suc, ◌+◌, ◌<◌, ◌≤◌, ◌==◌, ◌||◌, Bool, true, false, List, [], ◌∷◌, ◌++◌, length, get_or, refl, ap, sym, ◌∙◌, arith}
use Rattle.std.specs.List.{list_any}
use Rattle.std.specs.List.Sorted.{IsStrictlyIncreasing}
use Rattle.std.proofs.lemmas.Bool.{eq-eqb}
use Rattle.std.proofs.lemmas.Bool.Decides.{nat_tests}
use Rattle.std.proofs.lemmas.List.{length-append}
use Rattle.std.proofs.lemmas.List.Folds.{list_any-append}
use Rattle.recovery_laws.specs.layout.Places.{is_inode}
use Rattle.graph_check.specs.file_graph.Graph.{is_among}
use Rattle.recovery_laws.specs.Inodes.{HasEveryInode}

-- the numbers from 1 to n
pub numbers_to : ℕ → List ℕ
numbers_to zero = []
numbers_to (suc n) = numbers_to n ++ suc n ∷ []

pub next_number : (n : ℕ) → numbers_to (n + 1) ≡ numbers_to n ++ (n + 1) ∷ []
unfolding numbers_to
next_number n =
    let next : n + 1 ≡ suc n = omega arith in
    ap numbers_to next ∙ ap (λ (k : ℕ). numbers_to n ++ k ∷ []) (sym next)

pub no_numbers : numbers_to 0 ≡ []
unfolding numbers_to
no_numbers = refl

count_is : (n : ℕ) → length (numbers_to n) ≡ n
unfolding numbers_to
count_is zero = refl
count_is (suc n) = (let long = length-append (numbers_to n) (suc n ∷ []) in let rest = count_is n in omega (arith, long, rest))

-- ---- each is there

or_true : (b : Bool) → (b || true) ≡ true
or_true true = refl
or_true false = refl

or_left : (b c : Bool) → b ≡ true → (b || c) ≡ true
or_left true c e = refl
or_left false c e = absurd cc

last_or_before : (i n : ℕ) → i ≤ suc n → (i ≡ suc n) ⊎ (i ≤ n)
last_or_before zero n le = inr (omega arith)
last_or_before (suc i) zero le = inl (omega (arith, le))
last_or_before (suc i) (suc n) le = elim (last_or_before i n (omega (arith, le))) [
  | inl same ↦ inl (ap suc same)
  | inr less ↦ inr (omega (arith, less))
]

is_there : (n i : ℕ) → 1 ≤ i → i ≤ n → is_among i (numbers_to n) ≡ true
unfolding numbers_to
is_there zero i low high = absurd (omega (arith, low, high))
is_there (suc n) i low high = elim (last_or_before i n high) [
  | inl same ↦
      list_any-append (λ j. j == i) (numbers_to n) (suc n ∷ [])
      ∙ ap (λ b. list_any (λ j. j == i) (numbers_to n) || (b || false)) (eq-eqb (suc n) i (sym same))
      ∙ or_true (list_any (λ j. j == i) (numbers_to n))
  | inr less ↦ list_any-append (λ j. j == i) (numbers_to n) (suc n ∷ []) ∙ or_left (list_any (λ j. j == i) (numbers_to n)) (list_any (λ j. j == i) (suc n ∷ [])) (is_there n i low less)
]

is_low : (i : ℕ) → is_inode i ≡ true → 1 ≤ i
is_low i e = grind (arith, nat_tests)

is_high : (i : ℕ) → is_inode i ≡ true → i ≤ 1024
is_high i e = grind (arith, nat_tests)

pub all_there : HasEveryInode (numbers_to 1024)
all_there i is = is_there 1024 i (is_low i is) (is_high i is)

-- ---- they rise

at_front : (xs ys : List ℕ) (k : ℕ) → k < length xs → get_or (xs ++ ys) k 0 ≡ get_or xs k 0
at_front [] ys k low = absurd (omega (arith, low))
at_front (x ∷ xs) ys zero low = refl
at_front (x ∷ xs) ys (suc k) low = at_front xs ys k (omega (arith, low))

at_end : (xs : List ℕ) (y : ℕ) → get_or (xs ++ y ∷ []) (length xs) 0 ≡ y
at_end [] y = refl
at_end (x ∷ xs) y = at_end xs y

number_at : (n k : ℕ) → k < n → get_or (numbers_to n) k 0 ≡ suc k
unfolding numbers_to
number_at zero k low = absurd (omega (arith, low))
number_at (suc n) k low = elim (last_or_before (suc k) n (omega (arith, low))) [
  | inl same ↦ ap (λ (j : ℕ). get_or (numbers_to n ++ suc n ∷ []) j 0) (sym (count_is n ∙ before k n same)) ∙ at_end (numbers_to n) (suc n) ∙ sym same
  | inr less ↦ at_front (numbers_to n) (suc n ∷ []) k (let long = count_is n in omega (arith, long, less)) ∙ number_at n k (omega (arith, less))
]
  where
    before : (k n : ℕ) → suc k ≡ suc n → n ≡ k
    before k n e = omega (arith, e)

pub they_rise : (n : ℕ) → IsStrictlyIncreasing (numbers_to n)
they_rise n k low =
    let long = count_is n in
    let here = number_at n k (omega (arith, long, low)) in
    let next = number_at n (k + 1) (omega (arith, long, low)) in
    omega (arith, here, next)

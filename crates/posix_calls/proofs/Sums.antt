-- Sums and searches over the numbers from 1 on, and the sum over the inodes where one node changes.
use Rattle.std.proofs.Common.{◌≡◌, ◌≢◌, inl, inr, ℕ, zero, suc, ◌+◌, ◌<◌, ◌≤◌, ◌==◌, ◌||◌, if◌then◌else◌, cond, Bool, true, false, refl, Option, ap, sym, ◌∙◌, arith, add-one}
use Rattle.std.proofs.lemmas.Bool.{eq-eqb}
use Rattle.std.proofs.lemmas.Bool.Decides.{eqb_tells}
use Rattle.std.proofs.Math.Decide.{dec_le}
use Rattle.posix_calls.specs.Tree.{Tree, Node, sum_up_to, any_up_to, names_of, names_in, set_node}

same_sum : (n : ℕ) (f g : ℕ → ℕ) (d : ℕ) → n < d → ((j : ℕ) → j ≢ d → g j ≡ f j) → sum_up_to n g ≡ sum_up_to n f
unfolding sum_up_to
same_sum zero f g d below same = refl
same_sum (suc n) f g d below same =
    let first : g (suc n) ≡ f (suc n) = same (suc n) (λ e. omega (arith, e)) in
    let rest : sum_up_to n g ≡ sum_up_to n f = same_sum n f g d (omega arith) same in
    omega (arith, first, rest)

-- the sum moves by what one term does
pub one_changes : (n : ℕ) (f g : ℕ → ℕ) (d : ℕ) → 1 ≤ d → d ≤ n → ((j : ℕ) → j ≢ d → g j ≡ f j) → sum_up_to n g + f d ≡ sum_up_to n f + g d
unfolding sum_up_to
one_changes zero f g d low high same = absurd (omega arith)
one_changes (suc n) f g d low high same =
    elim (dec_le d n) [
      | yes inside ↦
          let first : g (suc n) ≡ f (suc n) = same (suc n) (λ e. omega (arith, e)) in
          let rest : sum_up_to n g + f d ≡ sum_up_to n f + g d = one_changes n f g d low inside same in
          omega (arith, first, rest)
      | no outside ↦
          let last : d ≡ suc n = omega arith in
          let gd : g d ≡ g (suc n) = ap g last in
          let fd : f d ≡ f (suc n) = ap f last in
          let rest : sum_up_to n g ≡ sum_up_to n f = same_sum n f g d (omega arith) same in
          omega (arith, gd, fd, rest)
    ]

-- a test for another number
pub same_if : {A : Type 0} (n d : ℕ) (x y : A) → n ≢ d → (if n == d then x else y) ≡ y
same_if n d x y other =
    elim (eqb_tells n d) [
      | inl same ↦ absurd (other same.1)
      | inr apart ↦ ap (λ b. cond b x y) apart.0
    ]

-- a test for the number itself
pub there_if : {A : Type 0} (d : ℕ) (x y : A) → (if d == d then x else y) ≡ x
there_if d x y = ap (λ b. cond b x y) (eq-eqb d d refl)

-- how many names there are once one node changes
pub names_of-set_node : (t : Tree) (d i : ℕ) (x : Option Node) → 1 ≤ d → d ≤ 1024 → names_of (set_node t d x) i + names_in i (t d) ≡ names_of t i + names_in i x
unfolding names_of
names_of-set_node t d i x low high =
    one_changes 1024 (λ j. names_in i (t j)) (λ j. names_in i (set_node t d x j)) d low high (λ j other. ap (names_in i) (same_if j d x (t j) other))
    ∙ ap (λ y. sum_up_to 1024 (λ j. names_in i (t j)) + names_in i y) (there_if d x (t d))

-- a sum of nothing
pub all_zero : (n : ℕ) (f : ℕ → ℕ) → ((j : ℕ) → f j ≡ 0) → sum_up_to n f ≡ 0
unfolding sum_up_to
all_zero zero f zeros = refl
all_zero (suc n) f zeros = let first : f (suc n) ≡ 0 = zeros (suc n) in let rest : sum_up_to n f ≡ 0 = all_zero n f zeros in omega (arith, first, rest)

-- where each count of g is at most one of f and one of h, so are the sums
pub sum_below : (n : ℕ) (f g h : ℕ → ℕ) → ((j : ℕ) → g j ≤ f j + h j) → sum_up_to n g ≤ sum_up_to n f + sum_up_to n h
unfolding sum_up_to
sum_below zero f g h each = omega arith
sum_below (suc n) f g h each =
    let first : g (suc n) ≤ f (suc n) + h (suc n) = each (suc n) in
    let rest : sum_up_to n g ≤ sum_up_to n f + sum_up_to n h = sum_below n f g h each in
    omega (arith, first, rest)

-- ---- searches

or_true : (b : Bool) → (b || true) ≡ true
or_true true = refl
or_true false = refl

-- one that passes is found
pub any_there : (m k : ℕ) (p : ℕ → Bool) → 1 ≤ k → k ≤ m → p k ≡ true → any_up_to m p ≡ true
unfolding any_up_to
any_there zero k p low high is = absurd (omega arith)
any_there (suc m) k p low high is =
    elim (dec_le k m) [
      | yes inside ↦ ap (λ b. p (suc m) || b) (any_there m k p low inside is) ∙ or_true (p (suc m))
      | no outside ↦ let last : k ≡ suc m = omega arith in ap (λ b. b || any_up_to m p) (ap p (sym last) ∙ is)
    ]

-- a number that passes
pub record IsOne (m : ℕ) (p : ℕ → Bool) : Type 0 where
  pub k : ℕ
  pub low : 1 ≤ k
  pub high : k ≤ m
  pub passes : p k ≡ true

-- what is found passes
pub any_is : (m : ℕ) (p : ℕ → Bool) → any_up_to m p ≡ true → IsOne m p
unfolding any_up_to
any_is zero p e = absurd (cc)
any_is (suc m) p e = elim (p (suc m)) as (λ b. p (suc m) ≡ b → (b || any_up_to m p) ≡ true → IsOne (suc m) p) [
  | true ↦ λ is found. record { k = suc m; low = omega arith; high = omega arith; passes = is }
  | false ↦ λ is found. let r = any_is m p found in let h = r.high in record { k = r.k; low = r.low; high = omega (arith, h); passes = r.passes }
] refl e

-- as a loop makes them
pub any_none : (p : ℕ → Bool) → any_up_to 0 p ≡ false
unfolding any_up_to
any_none p = refl

or_false : (a b : Bool) → a ≡ false → b ≡ false → (a || b) ≡ false
or_false a b e f = ap (λ x. x || b) e ∙ f

any_suc : (n : ℕ) (p : ℕ → Bool) → p (suc n) ≡ false → any_up_to n p ≡ false → any_up_to (suc n) p ≡ false
unfolding any_up_to
any_suc n p here before = or_false _ _ here before

pub any_more : (n : ℕ) (p : ℕ → Bool) → p (suc n) ≡ false → any_up_to n p ≡ false → any_up_to (n + 1) p ≡ false
any_more n p here before = ap (λ m. any_up_to m p) (add-one n) ∙ any_suc n p here before

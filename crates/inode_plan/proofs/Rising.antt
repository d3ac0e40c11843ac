-- Numbers that rise, and one more among them.
use Rattle.std.proofs.Common.{◌≡◌, ◌≢◌, ◌<◌, ◌≤◌, ◌+◌, ◌∙◌, ℕ, zero, suc, List, [], ◌∷◌, ◌++◌, length, take, drop, get_or, arith, inl, inr, sym, subst}
use Rattle.std.specs.Prelude.{max}
use Rattle.std.specs.List.{Contains, AllByRecursion, insert}
use Rattle.std.specs.List.Sorted.{IsStrictlySortedBy}
use Rattle.std.specs.Ordering.{nat_cmp}
use Rattle.std.specs.declared.cmp.Ordering.TheVariants.{Less}
use Rattle.std.specs.Cmp.{ranked}
use Rattle.std.proofs.lemmas.Bool.{cases_lt}
use Rattle.std.proofs.lemmas.List.{take-append-drop}
use Rattle.std.proofs.lemmas.List.Elements.{Contains-append_left, Contains-append_right, Contains-append_cases, Contains-get_or}
use Rattle.block_alloc.specs.Runs.{Rising}
use Rattle.area_commit.proofs.Given.{cons_cases, cons_here, cons_there}
use Rattle.inode_plan.specs.BlockWrites.{Rise, HasOneMore}
use Rattle.inode_plan.proofs.Moves.{later_is_greater}

-- ---- strictly sorted numbers rise

-- the number behind all of some
abbrev top : List ℕ → ℕ
top [] = 0
top (k ∷ ks) = max (k + 1) (top ks)

above : (k : ℕ) (ks : List ℕ) → AllByRecursion (λ y. nat_cmp k y ≡ Less) ks → AllByRecursion (λ y. k + 1 ≤ y) ks
above k [] all = tt
above k (y ∷ ys) all = (omega (arith, ranked k y Less (sym all.0)), above k ys all.1)

rise_from : (low end : ℕ) (ks : List ℕ) → IsStrictlySortedBy nat_cmp ks → AllByRecursion (λ y. low ≤ y) ks → top ks ≤ end → Rising low end ks
unfolding IsStrictlySortedBy
rise_from low end [] sorted all few = tt
rise_from low end (k ∷ ks) sorted all few = (all.0, omega (arith, few), rise_from (k + 1) end ks sorted.1 (above k ks sorted.0) (omega (arith, few)))

all_zero : (ks : List ℕ) → AllByRecursion (λ y. 0 ≤ y) ks
all_zero [] = tt
all_zero (k ∷ ks) = (omega arith, all_zero ks)

pub sorted_rise : (ks : List ℕ) → IsStrictlySortedBy nat_cmp ks → Rise ks
sorted_rise ks sorted = (top ks, rise_from 0 (top ks) ks sorted (all_zero ks) (omega arith))

-- ---- one more

pub rising_longer : (low end next : ℕ) (ks : List ℕ) → end ≤ next → Rising low end ks → Rising low next ks
rising_longer low end next [] more r = tt
rising_longer low end next (k ∷ ks) more r = (r.0, omega (arith, more, r.1), rising_longer (k + 1) end next ks more r.2)

rise_with : (low end n : ℕ) (ks : List ℕ) (at : ℕ) → at ≤ length ks → low ≤ n → n < end → ((k : ℕ) → k < at → get_or ks k 0 < n) → ((k : ℕ) → at ≤ k → k < length ks → n < get_or ks k 0) → Rising low end ks → Rising low end (take at ks ++ n ∷ drop at ks)
rise_with low end n [] zero fits first last before behind r = (first, last, tt)
rise_with low end n [] (suc at) fits first last before behind r = absurd (omega (arith, fits))
rise_with low end n (k ∷ ks) zero fits first last before behind r = (first, last, (let more = behind 0 (omega arith) (omega arith) in omega (arith, more), r.1, r.2))
rise_with low end n (k ∷ ks) (suc at) fits first last before behind r = (
  r.0,
  r.1,
  rise_with (k + 1) end n ks at (omega (arith, fits)) (let less = before 0 (omega arith) in omega (arith, less)) last (λ j lt. before (suc j) (omega (arith, lt)))
      (λ j ge lt. behind (suc j) (omega (arith, ge)) (omega (arith, lt))) r.2,
)

pub one_more : (n : ℕ) (ks : List ℕ) (at : ℕ) → at ≤ length ks → ((k : ℕ) → k < at → get_or ks k 0 < n) → ((k : ℕ) → at ≤ k → k < length ks → n < get_or ks k 0) → Rise ks → HasOneMore n ks (insert ks at n)
one_more n ks at fits before behind r =
    let same = take-append-drop at ks in
    record {
      rising = (max r.0 (n + 1), rise_with 0 (max r.0 (n + 1)) n ks at fits (omega arith) (omega arith) before behind (rising_longer 0 r.0 (max r.0 (n + 1)) ks (omega arith) r.1));
      each = λ k. (
        λ has. elim (Contains-append_cases (take at ks) (n ∷ drop at ks) k has) [
          | inl front ↦ inl (subst (λ xs. Contains xs k) same (Contains-append_left (take at ks) (drop at ks) k front))
          | inr rest ↦ elim (cons_cases n (drop at ks) k rest) [
            | inl here ↦ inr (sym here)
            | inr back ↦ inl (subst (λ xs. Contains xs k) same (Contains-append_right (take at ks) (drop at ks) k back))
          ]
        ],
        λ some. elim some [
          | inl was ↦ elim (Contains-append_cases (take at ks) (drop at ks) k (subst (λ xs. Contains xs k) (sym same) was)) [
            | inl front ↦ Contains-append_left (take at ks) (n ∷ drop at ks) k front
            | inr back ↦ Contains-append_right (take at ks) (n ∷ drop at ks) k (cons_there n (drop at ks) k back)
          ]
          | inr is ↦ Contains-append_right (take at ks) (n ∷ drop at ks) k (cons_here n (drop at ks) k (sym is))
        ],
      );
    }

-- a number that is there already
pub none_more : (n : ℕ) (ks : List ℕ) (at : ℕ) → at < length ks → get_or ks at 0 ≡ n → Rise ks → HasOneMore n ks ks
none_more n ks at lt is r = record {
  rising = r;
  each = λ k. (
    λ has. inl has,
    λ some. elim some [ inl was ↦ was | inr here ↦ subst (Contains ks) (is ∙ sym here) (Contains-get_or ks at 0 lt) ],
  );
}

-- where one of the numbers that are no less is another, all are greater
pub all_greater : (n : ℕ) (ks : List ℕ) (at : ℕ) → Rise ks → (at < length ks → get_or ks at 0 ≢ n) → ((k : ℕ) → at ≤ k → k < length ks → n ≤ get_or ks k 0) → (k : ℕ) → at ≤ k → k < length ks → n < get_or ks k 0
all_greater n ks at r other behind k ge lt = elim (cases_lt at k) [
  | inl later ↦ (let more = later_is_greater 0 r.0 at k ks r.1 later lt in let here = behind at (omega arith) (omega (arith, later, lt)) in omega (arith, more, here))
  | inr le ↦
      let same : at ≡ k = omega (arith, ge, le) in
      let here = behind k ge lt in
      let apart : get_or ks k 0 ≢ n = subst (λ j. get_or ks j 0 ≢ n) same (other (omega (arith, same, lt))) in
      omega (arith, here, apart)
]

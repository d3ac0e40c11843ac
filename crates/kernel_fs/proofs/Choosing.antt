-- The lowest of what is free, chosen one by one.
use Rattle.std.proofs.Common.{◌≡◌, ◌≢◌, inl, inr, ℕ, zero, suc, ◌+◌, ◌<◌, ◌≤◌, Bool, true, false, ◌||◌, ◌&&◌, not, cond, if◌then◌else◌, refl, ap, sym, ◌∙◌, subst, arith}
use Rattle.std.proofs.lemmas.Bool.{false≢true}
use Rattle.std.proofs.Math.Decide.{dec_le}
use Rattle.std.proofs.lemmas.Bool.Decides.{eqb_tells}
use Rattle.posix_calls.specs.Tree.{sum_up_to}
use Rattle.world_invariant.specs.LeaseSteps.{also}
use Rattle.kernel_fs.specs.Free.{AreLowest, count_of, is_absent}
use Rattle.kernel_fs.specs.Inodes.{IsInode, is_inode}
use Rattle.kernel_fs.proofs.Rows.{inode_is, inside}
use Rattle.posix_calls.proofs.Sums.{one_changes, all_zero}

-- ---- counts

-- what passes p passes q
pub count_within : (n : ℕ) (p q : ℕ → Bool) → ((i : ℕ) → p i ≡ true → q i ≡ true) → sum_up_to n (λ i. if p i then 1 else 0) ≤ sum_up_to n (λ i. if q i then 1 else 0)
unfolding sum_up_to
count_within zero p q each = omega arith
count_within (suc n) p q each =
    let rest : sum_up_to n (λ i. if p i then 1 else 0) ≤ sum_up_to n (λ i. if q i then 1 else 0) = count_within n p q each in
    let first : (if p (suc n) then 1 else 0) ≤ (if q (suc n) then 1 else 0) = one (p (suc n)) (q (suc n)) (each (suc n)) in
    omega (arith, rest, first)
  where
    one : (a b : Bool) → (a ≡ true → b ≡ true) → (if a then 1 else 0) ≤ (if b then 1 else 0)
    one false b e = omega arith
    one true true e = omega arith
    one true false e = absurd (false≢true (e refl))

pub count_none : (p : ℕ → Bool) → ((i : ℕ) → p i ≡ false) → count_of p ≡ 0
count_none p none = all_zero 1024 (λ i. if p i then 1 else 0) (λ i. ap (λ b. cond b 1 0) (none i))

-- one more passes
pub count_more : (p q : ℕ → Bool) (d : ℕ) → IsInode d → p d ≡ false → q d ≡ true → ((j : ℕ) → j ≢ d → q j ≡ p j) → count_of q ≡ count_of p + 1
count_more p q d is was now same =
    let sums : sum_up_to 1024 (λ i. if q i then 1 else 0) + (if p d then 1 else 0) ≡ sum_up_to 1024 (λ i. if p i then 1 else 0) + (if q d then 1 else 0)
    = one_changes 1024 (λ i. if p i then 1 else 0) (λ i. if q i then 1 else 0) d is.0 is.1 (λ j other. ap (λ b. cond b 1 0) (same j other)) in
    let none : ◌≡◌ {A = ℕ} (if p d then 1 else 0) 0 = ap (λ b. cond b 1 0) was in
    let some : ◌≡◌ {A = ℕ} (if q d then 1 else 0) 1 = ap (λ b. cond b 1 0) now in
    omega (arith, sums, none, some)

-- ---- choosing

pub and_true : (a b : Bool) → a ≡ true → b ≡ true → (a && b) ≡ true
and_true true true e f = refl
and_true true false e f = f
and_true false b e f = e

pub first_of : (a b : Bool) → (a && b) ≡ true → a ≡ true
first_of true b e = refl
first_of false b e = e

pub second_of : (a b : Bool) → (a && b) ≡ true → b ≡ true
second_of true b e = e
second_of false b e = absurd (false≢true e)

pub not_true : (a : Bool) → not a ≡ true → a ≡ false
not_true true e = sym e
not_true false e = refl

pub absent_is : (taken : ℕ → Bool) (i : ℕ) → is_absent taken i ≡ true → IsInode i × (taken i ≡ false)
absent_is taken i e = (inode_is i (first_of (is_inode i) (not (taken i)) e), not_true (taken i) (second_of (is_inode i) (not (taken i)) e))

pub is_absent_at : (taken : ℕ → Bool) (i : ℕ) → IsInode i → taken i ≡ false → is_absent taken i ≡ true
is_absent_at taken i is out = and_true (is_inode i) (not (taken i)) (inside i is) (ap not out)

pub chosen_none : (free chosen : ℕ → Bool) → ((i : ℕ) → chosen i ≡ false) → AreLowest free chosen 0
chosen_none free chosen none = record {
  among = λ i e. absurd (false≢true (sym (none i) ∙ e));
  count = count_none chosen none;
  lowest = λ i j e is out. absurd (false≢true (sym (none i) ∙ e));
}

module _ (taken now chosen next : ℕ → Bool) (n d : ℕ) (was : (i : ℕ) → now i ≡ (taken i || chosen i)) (lowest : AreLowest (is_absent taken) chosen n)
    (is : IsInode d) (free : now d ≡ false) (lower : (j : ℕ) → IsInode j → j < d → now j ≡ true) (more : (i : ℕ) → next i ≡ also chosen d i) where
  either_false : (a b : Bool) → (a || b) ≡ false → (a ≡ false) × (b ≡ false)
  either_false true b e = absurd (false≢true (sym e))
  either_false false b e = (refl, e)

  d_free : (taken d ≡ false) × (chosen d ≡ false)
  d_free = either_false (taken d) (chosen d) (sym (was d) ∙ free)

  next_at : next d ≡ true
  next_at = elim (eqb_tells d d) [
    | inl same ↦ more d ∙ ap (λ b. b || chosen d) same.0
    | inr other ↦ absurd (other.1 refl)
  ]

  next_else : (j : ℕ) → j ≢ d → next j ≡ chosen j
  next_else j off = elim (eqb_tells j d) [
    | inl same ↦ absurd (off same.1)
    | inr other ↦ more j ∙ ap (λ b. b || chosen j) other.0
  ]

  -- what is free and not chosen is not below d
  not_below : (j : ℕ) → is_absent taken j ≡ true → chosen j ≡ false → d ≤ j
  not_below j e out =
      let at : IsInode j × (taken j ≡ false) = absent_is taken j e in
      let clear : now j ≡ false = was j ∙ ap (λ b. b || chosen j) at.1 ∙ out in
      elim (dec_le d j) [
        | yes after ↦ after
        | no before ↦ absurd (false≢true (sym clear ∙ lower j at.0 (omega (arith, before))))
      ]

  pub chosen_more : AreLowest (is_absent taken) next (n + 1)
  chosen_more = record {
    among = λ i e. elim (eqb_tells i d) [
      | inl same ↦ subst (λ k. is_absent taken k ≡ true) (sym same.1) (is_absent_at taken d is d_free.0)
      | inr other ↦ lowest.among i (sym (next_else i other.1) ∙ e)
    ];
    count = count_more chosen next d is d_free.1 next_at next_else ∙ ap (λ k. k + 1) lowest.count;
    lowest = λ i j e e_free out. elim (eqb_tells j d) [
      | inl same ↦ absurd (false≢true (sym out ∙ ap next same.1 ∙ next_at))
      | inr off ↦
          let j_out : chosen j ≡ false = sym (next_else j off.1) ∙ out in
          elim (eqb_tells i d) [
            | inl same ↦ let high : d ≤ j = not_below j e_free j_out in omega (arith, same.1, high, off.1)
            | inr other ↦ lowest.lowest i j (sym (next_else i other.1) ∙ e) e_free j_out
          ]
    ];
  }

-- where all are taken, no more are free than were chosen
pub all_chosen : (taken now chosen : ℕ → Bool) (n : ℕ) → ((i : ℕ) → now i ≡ (taken i || chosen i)) → AreLowest (is_absent taken) chosen n → ((j : ℕ) → IsInode j → now j ≡ true) → count_of (is_absent taken) ≤ n
all_chosen taken now chosen n was lowest full =
    let within : count_of (is_absent taken) ≤ count_of chosen = count_within 1024 (is_absent taken) chosen (λ i e. let at : IsInode i × (taken i ≡ false) = absent_is taken i e in sym (ap (λ b. b || chosen i) at.1) ∙ sym (was i) ∙ full i at.0) in
    let count : count_of chosen ≡ n = lowest.count in
    omega (arith, within, count)

-- so many are chosen as are asked for, only where so many are free
pub enough : (free chosen : ℕ → Bool) (n : ℕ) → AreLowest free chosen n → n ≤ count_of free
enough free chosen n lowest =
    let within : count_of chosen ≤ count_of free = count_within 1024 chosen free lowest.among in
    let count : count_of chosen ≡ n = lowest.count in
    omega (arith, within, count)

pub swapped : (a b c : Bool) → (a || (b || c)) ≡ (b || (a || c))
swapped true true c = refl
swapped true false c = refl
swapped false b c = refl

pub or_none : (a b : Bool) → b ≡ false → a ≡ (a || b)
or_none true b e = refl
or_none false b e = sym e

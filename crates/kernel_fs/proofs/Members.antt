-- The members of a set.
use Rattle.std.proofs.Common.{◌≡◌, inl, inr, ℕ, zero, suc, ◌+◌, ◌≤◌, ◌==◌, ◌||◌, List, ◌∷◌, length, Bool, true, false, cond, refl, ap, sym, ◌∙◌, arith}
use Rattle.std.proofs.lemmas.Bool.{false≢true}
use Rattle.std.proofs.lemmas.Bool.Decides.{eqb_tells}
use Rattle.posix_calls.specs.Tree.{sum_up_to}
use Rattle.world_invariant.specs.file_graph.Graph.{is_among}
use Rattle.kernel_fs.specs.Inodes.{is_inode, has, passing_numbers, members}
use Rattle.kernel_fs.proofs.Rows.{inode_tells, inside, has_none}

-- a number that is put in front, where a test passes
put_other : (b : Bool) (i n : ℕ) (rest : List ℕ) (r : Bool) → (n == i) ≡ false → is_among i rest ≡ r → is_among i (cond b (n ∷ rest) rest) ≡ r
put_other true i n rest r off is = ap (λ t. t || is_among i rest) off ∙ is
put_other false i n rest r off is = is

put_own : (b : Bool) (i n : ℕ) (rest : List ℕ) → (n == i) ≡ true → is_among i rest ≡ false → is_among i (cond b (n ∷ rest) rest) ≡ b
put_own true i n rest same out = ap (λ t. t || is_among i rest) same
put_own false i n rest same out = out

put_long : (b : Bool) (n k : ℕ) (rest : List ℕ) → length rest ≡ k → length (cond b (n ∷ rest) rest) ≡ cond b 1 0 + k
put_long true n k rest is = omega (arith, is)
put_long false n k rest is = omega (arith, is)

-- what is greater than all of them is not among them, and 0 is not
beyond : (p : ℕ → Bool) (n i : ℕ) → (1 ≤ i → i ≤ n → ⊥) → is_among i (passing_numbers p n) ≡ false
unfolding passing_numbers
beyond p zero i out = refl
beyond p (suc n) i out = elim (eqb_tells (suc n) i) [
  | inl same ↦ absurd (out (omega (arith, same.1)) (omega (arith, same.1)))
  | inr off ↦ put_other (p (suc n)) i (suc n) (passing_numbers p n) false off.0 (beyond p n i (λ low high. out low (omega (arith, high))))
]

within : (p : ℕ → Bool) (n i : ℕ) → 1 ≤ i → i ≤ n → is_among i (passing_numbers p n) ≡ p i
unfolding passing_numbers
within p zero i low high = absurd (omega (arith, low, high))
within p (suc n) i low high = elim (eqb_tells (suc n) i) [
  | inl same ↦ put_own (p (suc n)) i (suc n) (passing_numbers p n) same.0 (beyond p n i (λ one few. omega (arith, few, same.1))) ∙ ap p same.1
  | inr off ↦ put_other (p (suc n)) i (suc n) (passing_numbers p n) (p i) off.0 (within p n i low (omega (arith, high, off.1)))
]

no_inode : (j : ℕ) → is_inode j ≡ false → 1 ≤ j → j ≤ 1024 → ⊥
no_inode j out low high = false≢true (sym out ∙ inside j (low, high))

pub member : (rows : List ℕ) (i : ℕ) → is_among i (members rows) ≡ has rows i
member rows i = elim (inode_tells i) [
  | inl is ↦ within (has rows) 1024 i is.0 is.1
  | inr out ↦ beyond (has rows) 1024 i (λ low high. no_inode i out low high) ∙ sym (has_none rows i out)
]

pub count_passing : (p : ℕ → Bool) (n : ℕ) → length (passing_numbers p n) ≡ sum_up_to n (λ i. cond (p i) 1 0)
unfolding passing_numbers sum_up_to
count_passing p zero = refl
count_passing p (suc n) = put_long (p (suc n)) (suc n) (sum_up_to n (λ i. cond (p i) 1 0)) (passing_numbers p n) (count_passing p n)

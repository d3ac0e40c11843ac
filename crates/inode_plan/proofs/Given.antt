-- Blocks that are given up, each as a run of its own.
use Rattle.std.proofs.Common.{◌≡◌, ◌≢◌, ◌≤◌, ◌<◌, ◌+◌, ◌∷◌, ◌∙◌, ℕ, zero, suc, List, [], length, get_or, map, refl, sym, ap, subst, arith, inl, inr, ◌⊎◌}
use Rattle.std.specs.List.{Contains, AllByRecursion}
use Rattle.std.proofs.lemmas.Bool.{cases_lt}
use Rattle.std.proofs.lemmas.List.{get_or_default}
use Rattle.block_alloc.specs.Runs.{blocks_of}
use Rattle.block_alloc.specs.Value.{FreeBlocks, IsUsed}
use Rattle.area_commit.specs.Release.{AreUsed, IsInUse}
use Rattle.area_commit.proofs.Given.{all_from, cons_here, cons_there}
use Rattle.inode_plan.specs.Blocks.{nth_block, HaveOwnPlaces, one_block}

-- the blocks of such runs are those that were given up
pub blocks_are : (xs : List ℕ) → blocks_of (map one_block xs) ≡ xs
blocks_are [] = refl
blocks_are (x ∷ xs) = ap (λ (ys : List ℕ). x ∷ ys) (blocks_are xs)

-- a number is below another one or above it
beside : (j k : ℕ) → j ≢ k → (j < k) ⊎ (k + 1 ≤ j)
beside j k other = elim (cases_lt j k) [ inl lt ↦ inl lt | inr ge ↦ inr (omega (arith, ge, other)) ]

one_used : (p : FreeBlocks) (k : ℕ) → IsInUse p k → IsUsed p (one_block k)
one_used p k use' =
    let low = use'.low in
    let high = use'.high in
    record { some = omega arith; after = low; before = omega (arith, high); apart = all_from (λ j. (j < k) ⊎ (k + 1 ≤ j)) p.free (λ j at. beside j k (λ same. use'.used (subst (Contains p.free) same at))) }

head_apart : (x : ℕ) (xs : List ℕ) → HaveOwnPlaces (x ∷ xs) → (j : ℕ) → Contains xs j → j ≢ x
head_apart x xs apart j (n, below, is) same = let e : zero ≡ suc n = apart zero (suc n) (omega arith) (omega (arith, below)) (sym same ∙ sym is ∙ default_same xs n below) in omega (arith, e)
  where
    default_same : (ys : List ℕ) (n : ℕ) → n < length ys → get_or ys n j ≡ nth_block ys n
    default_same ys n lt = get_or_default ys n j 0 lt

rest_apart : (x : ℕ) (xs : List ℕ) → HaveOwnPlaces (x ∷ xs) → HaveOwnPlaces xs
rest_apart x xs apart j k lj lk same = let e : suc j ≡ suc k = apart (suc j) (suc k) (omega (arith, lj)) (omega (arith, lk)) same in omega (arith, e)

pub all_used : (p : FreeBlocks) (xs : List ℕ) → HaveOwnPlaces xs → ((k : ℕ) → Contains xs k → IsInUse p k) → AreUsed p (map one_block xs)
all_used p [] apart each = tt
all_used p (x ∷ xs) apart each = (
  one_used p x (each x (cons_here x xs x refl)),
  subst (λ ys. AllByRecursion (λ k. (k < x) ⊎ (x + 1 ≤ k)) ys) (sym (blocks_are xs)) (all_from (λ k. (k < x) ⊎ (x + 1 ≤ k)) xs (λ j at. beside j x (head_apart x xs apart j at))),
  all_used p xs (rest_apart x xs apart) (λ k at. each k (cons_there x xs k at)),
)

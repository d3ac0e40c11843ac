-- Runs of places that are given up.
use Rattle.std.proofs.Common.{◌≡◌, ◌≤◌, ◌<◌, ◌⊎◌, inl, inr, ℕ, zero, suc, ◌+◌, ◌-◌, List, [], ◌∷◌, ◌++◌, Option, Some, None, sym, ap, ◌∙◌, refl, subst, arith}
use Rattle.std.specs.List.{Contains, AllByRecursion}
use Rattle.std.proofs.lemmas.Bool.{cases_lt}
use Rattle.std.proofs.lemmas.List.Elements.{Contains-append_left, Contains-append_right}
use Rattle.area_reader.specs.layout.declared.extents.Extent.{Extent}
use Rattle.area_reader.specs.extent_tree.Places.{place_of}
use Rattle.area_reader.specs.extent_tree.BlockFormat.{IsOneToOne}
use Rattle.block_alloc.specs.declared.runs.Run.{Run}
use Rattle.block_alloc.specs.Runs.{run_blocks, blocks_of}
use Rattle.block_alloc.specs.Value.{FreeBlocks, IsUsed}
use Rattle.area_reader.specs.extent_tree.Map.{places_of, place_list, HasBlock}
use Rattle.area_commit.specs.Release.{AreUsed, IsInUse}
use Rattle.area_commit.proofs.Given.{all_from, cons_cases, nothing, in_range}

-- no number stands twice
abbrev pub Once : List ℕ → Type 0
Once [] = Unit {0}
Once (x ∷ xs) = (Contains xs x → ⊥) × Once xs

pub once_rest : (xs ys : List ℕ) → Once (xs ++ ys) → Once ys
once_rest [] ys once = once
once_rest (x ∷ xs) ys once = once_rest xs ys once.1

pub once_apart : (xs ys : List ℕ) (k : ℕ) → Once (xs ++ ys) → Contains xs k → Contains ys k → ⊥
once_apart [] ys k once at there = nothing k at
once_apart (x ∷ xs) ys k once at there = elim (cons_cases x xs k at) [
  | inl here ↦ once.0 (Contains-append_right xs ys x (subst (Contains ys) (sym here) there))
  | inr later ↦ once_apart xs ys k once.1 later there
]

-- ---- the places of a run

-- a block of the run that lies at a place
pub record LiesThere (es : List Extent) (first count p : ℕ) : Type 0 where
  pub block : ℕ
  pub low : first ≤ block
  pub high : block < first + count
  pub there : place_of es block ≡ Some p

some_is : (x y : ℕ) → Some x ≡ Some y → x ≡ y
some_is x y e = cc

pub lies_there : (es : List Extent) (first count p : ℕ) → Contains (places_of es first count) p → LiesThere es first count p
lies_there es first zero p at = absurd (nothing p at)
lies_there es first (suc n) p at = by (place_of es first) refl (λ there. lies_there es (first + 1) n p there) at
  where
    later : LiesThere es (first + 1) n p → LiesThere es first (suc n) p
    later r = let low = r.low in let high = r.high in record { block = r.block; low = omega (arith, low); high = omega (arith, high); there = r.there }

    by : (o : Option ℕ) → place_of es first ≡ o → (Contains (places_of es (first + 1) n) p → LiesThere es (first + 1) n p) → Contains (place_list o ++ places_of es (first + 1) n) p → LiesThere es first (suc n) p
    by None is rest at = later (rest at)
    by (Some q) is rest at = elim (cons_cases q (places_of es (first + 1) n) p at) [
      | inl here ↦ record { block = first; low = omega arith; high = omega arith; there = is ∙ ap Some here }
      | inr there ↦ later (rest there)
    ]

pub places_once : (es : List Extent) (first count : ℕ) → IsOneToOne es → Once (places_of es first count)
places_once es first zero one = tt
places_once es first (suc n) one = by (place_of es first) refl (places_once es (first + 1) n one)
  where
    by : (o : Option ℕ) → place_of es first ≡ o → Once (places_of es (first + 1) n) → Once (place_list o ++ places_of es (first + 1) n)
    by None is rest = rest
    by (Some q) is rest = (
      λ at. (let r = lies_there es (first + 1) n q at in let low = r.low in let same : first ≡ r.block = one first r.block q is r.there in omega (arith, low, same)),
      rest,
    )

-- ---- runs of such places

-- a number is before a run, behind it, or one of its blocks
pub beside : (r : Run) (k : ℕ) → (Contains (run_blocks r) k → ⊥) → (k < r.first) ⊎ (r.first + r.count ≤ k)
beside r k out = elim (cases_lt k r.first) [
  | inl lt ↦ inl lt
  | inr ge ↦ elim (cases_lt k (r.first + r.count)) [ inl lt ↦ absurd (out (in_range r.first r.count k ge lt)) | inr past ↦ inr past ]
]

pub run_used : (p : FreeBlocks) (r : Run) → 0 < r.count → ((k : ℕ) → Contains (run_blocks r) k → IsInUse p k) → IsUsed p r
run_used p r some each =
    let first = each r.first (in_range r.first r.count r.first (omega arith) (omega (arith, some))) in
    let last = each (r.first + r.count - 1) (in_range r.first r.count (r.first + r.count - 1) (omega (arith, some)) (omega (arith, some))) in
    let low = first.low in
    let high = last.high in
    record {
      some = some;
      after = low;
      before = omega (arith, high, some);
      apart = all_from (λ k. (k < r.first) ⊎ (r.first + r.count ≤ k)) p.free (λ k at. beside r k (λ inside. (each k inside).used at));
    }

pub runs_used : (p : FreeBlocks) (runs : List Run) → AllByRecursion HasBlock runs → Once (blocks_of runs) → ((k : ℕ) → Contains (blocks_of runs) k → IsInUse p k) → AreUsed p runs
runs_used p [] some once each = tt
runs_used p (r ∷ rs) some once each = (
  run_used p r some.0 (λ k at. each k (Contains-append_left (run_blocks r) (blocks_of rs) k at)),
  all_from (λ k. (k < r.first) ⊎ (r.first + r.count ≤ k)) (blocks_of rs) (λ k at. beside r k (λ inside. once_apart (run_blocks r) (blocks_of rs) k once inside at)),
  runs_used p rs some.1 (once_rest (run_blocks r) (blocks_of rs) once) (λ k at. each k (Contains-append_right (run_blocks r) (blocks_of rs) k at)),
)

pub given_up_used : (p : FreeBlocks) (es : List Extent) (first count : ℕ) (runs : List Run) → blocks_of runs ≡ places_of es first count → AllByRecursion HasBlock runs → IsOneToOne es
    → ((b k : ℕ) → place_of es b ≡ Some k → IsInUse p k) → AreUsed p runs
given_up_used p es first count runs is some one each =
    runs_used p runs some (subst Once (sym is) (places_once es first count one)) (λ k at.
    (let r = lies_there es first count k (subst (λ xs. Contains xs k) is at) in each r.block k r.there))

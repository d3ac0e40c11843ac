-- Runs of blocks none of which stands twice.
use Rattle.std.proofs.Common.{◌≤◌, ◌<◌, ◌⊎◌, inl, inr, ℕ, ◌+◌, ◌-◌, List, [], ◌∷◌, ◌++◌, sym, subst, arith}
use Rattle.std.specs.List.{Contains, AllByRecursion}
use Rattle.std.proofs.lemmas.Bool.{cases_lt}
use Rattle.std.proofs.lemmas.List.Elements.{Contains-append_left, Contains-append_right}
use Rattle.block_alloc.specs.declared.runs.Run.{Run}
use Rattle.block_alloc.specs.Runs.{run_blocks, blocks_of}
use Rattle.block_alloc.specs.Value.{FreeBlocks, IsUsed}
use Rattle.area_commit.specs.extent_tree.Map.{HasBlock}
use Rattle.area_commit.specs.Release.{AreUsed, IsInUse}
use Rattle.area_commit.proofs.Given.{all_from, cons_cases, nothing, in_range}

-- no number stands twice
abbrev pub Once : List ℕ → Type 0
Once [] = Unit {0}
Once (x ∷ xs) = (Contains xs x → ⊥) × Once xs

once_rest : (xs ys : List ℕ) → Once (xs ++ ys) → Once ys
once_rest [] ys once = once
once_rest (x ∷ xs) ys once = once_rest xs ys once.1

once_apart : (xs ys : List ℕ) (k : ℕ) → Once (xs ++ ys) → Contains xs k → Contains ys k → ⊥
once_apart [] ys k once at there = nothing k at
once_apart (x ∷ xs) ys k once at there = elim (cons_cases x xs k at) [
  | inl here ↦ once.0 (Contains-append_right xs ys x (subst (Contains ys) (sym here) there))
  | inr later ↦ once_apart xs ys k once.1 later there
]

-- a number is before a run, behind it, or one of its blocks
beside : (r : Run) (k : ℕ) → (Contains (run_blocks r) k → ⊥) → (k < r.first) ⊎ (r.first + r.count ≤ k)
beside r k out = elim (cases_lt k r.first) [
  | inl lt ↦ inl lt
  | inr ge ↦ elim (cases_lt k (r.first + r.count)) [ inl lt ↦ absurd (out (in_range r.first r.count k ge lt)) | inr past ↦ inr past ]
]

run_used : (p : FreeBlocks) (r : Run) → 0 < r.count → ((k : ℕ) → Contains (run_blocks r) k → IsInUse p k) → IsUsed p r
run_used p r some each =
    let first = each r.first (in_range r.first r.count r.first (omega arith) (omega (arith, some))) in
    let last = each (r.first + r.count - 1) (in_range r.first r.count (r.first + r.count - 1) (omega (arith, some)) (omega (arith, some))) in
    let low = first.low in
    let high = last.high in
    record {
      some = some;
      after = low;
      before = omega (arith, high, some);
      apart = all_from (λ k. (k < r.first) ⊎ (r.first + r.count ≤ k)) p.free (λ k at. beside r k (λ inside. (each k inside).used at));
    }

pub runs_used : (p : FreeBlocks) (runs : List Run) → AllByRecursion HasBlock runs → Once (blocks_of runs) → ((k : ℕ) → Contains (blocks_of runs) k → IsInUse p k) → AreUsed p runs
runs_used p [] some once each = tt
runs_used p (r ∷ rs) some once each = (
  run_used p r some.0 (λ k at. each k (Contains-append_left (run_blocks r) (blocks_of rs) k at)),
  all_from (λ k. (k < r.first) ⊎ (r.first + r.count ≤ k)) (blocks_of rs) (λ k at. beside r k (λ inside. once_apart (run_blocks r) (blocks_of rs) k once inside at)),
  runs_used p rs some.1 (once_rest (run_blocks r) (blocks_of rs) once) (λ k at. each k (Contains-append_right (run_blocks r) (blocks_of rs) k at)),
)

-- Runs of which no two have a block in common.
use Rattle.std.proofs.Common.{◌≤◌, ◌<◌, ◌⊎◌, inl, inr, ℕ, ◌+◌, List, [], ◌∷◌, ◌++◌, sym, subst}
use Rattle.std.specs.List.{Contains}
use Rattle.std.proofs.lemmas.List.Concat.{flat_map-append}
use Rattle.std.proofs.lemmas.List.Elements.{Contains-append_left, Contains-append_right, Contains-append_cases}
use Rattle.block_alloc.specs.declared.runs.Run.{Run}
use Rattle.block_alloc.specs.Runs.{Apart, run_blocks, blocks_of}
use Rattle.block_alloc.specs.Value.{FreeBlocks}
use Rattle.area_commit.specs.Release.{AreUsed}
use Rattle.area_commit.proofs.Members.{cons_cases, nothing}
use Rattle.area_commit.proofs.Given.{all_from}
use Rattle.area_commit.proofs.GivenUp.{beside}
use Rattle.area_commit.specs.Plan.{LieApart}

pub used_apart : (p : FreeBlocks) (runs : List Run) → AreUsed p runs → LieApart runs
used_apart p [] used = tt
used_apart p (r ∷ rs) used = (used.0.some, used.1, used_apart p rs used.2)

-- a block is before a run or behind it
abbrev Beside : Run → ℕ → Type 0
Beside r k = (k < r.first) ⊎ (r.first + r.count ≤ k)

all_in : (r : Run) (ks : List ℕ) → Apart r ks → (k : ℕ) → Contains ks k → Beside r k
all_in r [] all k at = absurd (nothing k at)
all_in r (x ∷ xs) all k at = elim (cons_cases x xs k at) [ inl here ↦ subst (Beside r) here all.0 | inr there ↦ all_in r xs all.1 k there ]

pub apart_join : (xs ys : List Run) → LieApart xs → LieApart ys → ((k : ℕ) → Contains (blocks_of xs) k → Contains (blocks_of ys) k → ⊥) → LieApart (xs ++ ys)
apart_join [] ys one two far = two
apart_join (r ∷ rs) ys one two far = (
  one.0,
  subst (Apart r) (sym (flat_map-append run_blocks rs ys)) (all_from (Beside r) (blocks_of rs ++ blocks_of ys) (λ k at. elim (Contains-append_cases (blocks_of rs) (blocks_of ys) k at) [
    | inl here ↦ all_in r (blocks_of rs) one.1 k here
    | inr there ↦ beside r k (λ inside. far k (Contains-append_left (run_blocks r) (blocks_of rs) k inside) there)
  ])),
  apart_join rs ys one.2 two (λ k at there. far k (Contains-append_right (run_blocks r) (blocks_of rs) k at) there),
)

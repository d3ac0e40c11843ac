-- What is taken, and what is left.
use Rattle.std.proofs.Common.{◌≡◌, ◌≤◌, inl, inr, ◌⊎◌, ℕ, ◌+◌, List, [], ◌∷◌, ◌++◌, sym, ap, ◌∙◌, refl, arith, subst, Some}
use Rattle.std.specs.Prelude.{◌↔◌}
use Rattle.std.specs.List.{Contains}
use Rattle.std.proofs.lemmas.Bool.{cases_eq, cases_lt}
use Rattle.std.proofs.lemmas.List.Elements.{Contains-append_left, Contains-append_right, Contains-append_cases}
use Rattle.tier_device.specs.declared.media.Tier.{Tier}
use Rattle.area_reader.specs.layout.Places.{Sizes, tier_blocks}
use Rattle.block_alloc.specs.declared.runs.Run.{Run}
use Rattle.block_alloc.specs.Runs.{blocks_of, AreNormalRuns, Rising}
use Rattle.block_alloc.specs.Value.{FreeBlocks, InOrder}
use Rattle.area_reader.specs.batch_journal.Blocks.{Blocks}
use Rattle.area_reader.specs.Store.{Store}
use Rattle.area_reader.specs.Reads.{Free, IsRoom, LooseIn, first_room}
use Rattle.area_reader.specs.Format.{Use, used_block}
use Rattle.area_reader.proofs.Rewriting.{free_unused}
use Rattle.area_commit.specs.Value.{PoolsView, data_pool, HasRanges, AreFree}
use Rattle.area_commit.specs.declared.allocation.Allocation.{Allocation}
use Rattle.area_commit.specs.Allocations.{WasTaken, WereTaken, runs_of}
use Rattle.area_commit.specs.DataWrite.{AreFreeIn, RunsAreNormal}
use Rattle.area_commit.proofs.Fronts.{rising-right}
use Rattle.area_commit.proofs.Members.{cons_cases, nothing}

-- ---- what is taken

pub taken_free : (g : Sizes) (s : Store) (old new : PoolsView) (taken : Allocation) → AreFree g s old → WereTaken old new taken → (t : Tier) → AreFreeIn g s t (runs_of taken t)
taken_free g s old new taken free were t k at =
    let before : Contains (data_pool old t).free k = subst (λ xs. Contains xs k) (were.per_tier t).front (Contains-append_left (blocks_of (runs_of taken t)) (data_pool new t).free k at) in
    ((free.per_tier t k).0 before).0

pub taken_apart : (g : Sizes) (old new : PoolsView) (taken : Allocation) → HasRanges g old → WereTaken old new taken → RunsAreNormal g taken
taken_apart g old new taken ranges were t = subst (λ low. AreNormalRuns low (tier_blocks g t) (runs_of taken t)) (ranges.first t) (subst (λ end. AreNormalRuns (data_pool old t).first end (runs_of taken t)) (ranges.end t) (were.per_tier t).apart)

rising_low : (low end : ℕ) (xs : List ℕ) (k : ℕ) → Rising low end xs → Contains xs k → low ≤ k
rising_low low end [] k is at = absurd (nothing k at)
rising_low low end (x ∷ xs) k is at = elim (cons_cases x xs k at) [
  | inl here ↦ omega (arith, here, is.0)
  | inr there ↦ omega (arith, rising_low (x + 1) end xs k is.2 there, is.0)
]

-- no block stands in a rising list twice
once : (low end : ℕ) (xs ys : List ℕ) (k : ℕ) → Rising low end (xs ++ ys) → Contains xs k → Contains ys k → ⊥
once low end [] ys k is at there = nothing k at
once low end (x ∷ xs) ys k is at there = elim (cons_cases x xs k at) [
  | inl here ↦ omega (arith, here, rising_low (x + 1) end ys k (rising-right (x + 1) end xs ys is.2) there)
  | inr later ↦ once (x + 1) end xs ys k is.2 later there
]

pub taken_left : (old new : FreeBlocks) (runs : List Run) → InOrder old → WasTaken old new runs → (k : ℕ) → Contains new.free k ↔ (Contains old.free k × (Contains (blocks_of runs) k → ⊥))
taken_left old new runs order was k = (
  λ at. (
    subst (λ xs. Contains xs k) was.front (Contains-append_right (blocks_of runs) new.free k at),
    λ there. once old.first old.end (blocks_of runs) new.free k (subst (Rising old.first old.end) (sym was.front) order) there at,
  ),
  λ is. elim (Contains-append_cases (blocks_of runs) new.free k (subst (λ xs. Contains xs k) (sym was.front) is.0)) [ inl taken ↦ absurd (is.1 taken) | inr left ↦ left ],
)

-- ---- what may be left

same_or_not : (xs ys : List ℕ) → (xs ≡ ys) ⊎ (xs ≡ ys → ⊥)
same_or_not [] [] = inl refl
same_or_not [] (y ∷ ys) = inr (λ e. cc)
same_or_not (x ∷ xs) [] = inr (λ e. cc)
same_or_not (x ∷ xs) (y ∷ ys) = elim (cases_eq x y) [
  | inr differ ↦ inr (λ e. differ (let head : x ≡ y = cc in head))
  | inl head ↦ elim (same_or_not xs ys) [
    | inl tail ↦ inl (ap (λ z. z ∷ xs) head ∙ ap (λ zs. y ∷ zs) tail)
    | inr differ ↦ inr (λ e. differ (let tail : xs ≡ ys = cc in tail))
  ]
]

room_or_not : (g : Sizes) (t : Tier) (k : ℕ) → IsRoom g t k ⊎ (IsRoom g t k → ⊥)
room_or_not g t k = elim (cases_lt k (first_room t)) [
  | inl low ↦ inr (λ room. (let first = room.first in omega (arith, low, first)))
  | inr first ↦ elim (cases_lt k (tier_blocks g t)) [
    | inl last ↦ inl (record { first = first; last = last })
    | inr high ↦ inr (λ room. (let last = room.last in omega (arith, high, last)))
  ]
]

pub fenced_loose : (g : Sizes) (old new : Store) (t : Tier) (left : Blocks) → LooseIn g old t left → ((k : ℕ) → new t k ≡ old t k) → ((u : Use) (k : ℕ) → Free g old t k → used_block g new u ≡ Some (t, k) → left k ≡ old t k) → LooseIn g new t left
fenced_loose g old new t left loose same kept k taken = elim (same_or_not (left k) (old t k)) [
  | inl is ↦ is ∙ sym (same k)
  | inr differ ↦ elim (room_or_not g t k) [
    | inl room ↦ absurd (taken ((free_unused g new t k).1 (room, λ u at. differ (loose k (λ free. differ (kept u k free at))))))
    | inr none ↦ absurd (differ (loose k (λ free. none free.room)))
  ]
]

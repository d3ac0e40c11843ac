-- Blocks that are put to new places lie apart, as those did before.
use Rattle.std.proofs.Common.{◌≡◌, ◌≢◌, ◌≤◌, ◌<◌, ◌⊎◌, inl, inr, ℕ, zero, suc, ◌+◌, ◌-◌, List, [], ◌∷◌, length, get_or, Some, None, sym, ap, ◌∙◌, refl, subst, arith, true}
use Rattle.std.specs.Prelude.{IsSome}
use Rattle.std.specs.List.{Contains}
use Rattle.std.proofs.lemmas.Bool.{cases_lt, false≢true}
use Rattle.std.proofs.lemmas.List.Elements.{Contains-get_or}
use Rattle.std.proofs.lemmas.Option.{none-some, same_Some}
use Rattle.tier_device.specs.declared.media.Tier.{Tier}
use Rattle.tier_device.specs.declared.media.Tier.TheVariants.{Fast, Block, Slow}
use Rattle.area_commit.specs.layout.declared.geometry.Space.{Space}
use Rattle.area_commit.specs.layout.Places.{Sizes, blocks_in, is_run}
use Rattle.block_alloc.specs.Runs.{Rising}
use Rattle.area_commit.specs.extent_tree.BlockFormat.{LiesWithin, IsOneToOne}
use Rattle.area_commit.specs.extent_tree.Map.{TierRuns, runs_in, lies_at, LieOnce, LieBelow}
use Rattle.inode_plan.specs.RunPlaces.{ArePlaced}
use Rattle.inode_plan.proofs.Steps.{moved_in, moved_out, away_in, away_out}

pub tier_is : (t u : Tier) → (t ≡ u) ⊎ (t ≢ u)
tier_is Fast Fast = inl refl
tier_is Fast Block = inr (λ e. cc)
tier_is Fast Slow = inr (λ e. cc)
tier_is Block Fast = inr (λ e. cc)
tier_is Block Block = inl refl
tier_is Block Slow = inr (λ e. cc)
tier_is Slow Fast = inr (λ e. cc)
tier_is Slow Block = inr (λ e. cc)
tier_is Slow Slow = inl refl

-- a block is of a run, or not
pub run_cases : (first n k : ℕ) → ((first ≤ k) × (k < first + n)) ⊎ ((k < first) ⊎ (first + n ≤ k))
run_cases first n k = elim (cases_lt k first) [
  | inl lt ↦ inr (inl lt)
  | inr ge ↦ elim (cases_lt k (first + n)) [ inl lt ↦ inl (ge, lt) | inr past ↦ inr (inr past) ]
]

-- ---- rising lists

rising_at : (low end : ℕ) (xs : List ℕ) (i : ℕ) → Rising low end xs → i < length xs → low ≤ get_or xs i 0
rising_at low end [] i is lt = absurd (omega (arith, lt))
rising_at low end (x ∷ xs) zero is lt = is.0
rising_at low end (x ∷ xs) (suc i) is lt = omega (arith, is.0, rising_at (x + 1) end xs i is.2 (omega (arith, lt)))

-- no two places of such a list have one number
rising_one : (low end : ℕ) (xs : List ℕ) (i j : ℕ) → Rising low end xs → i < length xs → j < length xs → get_or xs i 0 ≡ get_or xs j 0 → i ≡ j
rising_one low end [] i j is at_i at_j same = absurd (omega (arith, at_i))
rising_one low end (x ∷ xs) zero zero is at_i at_j same = refl
rising_one low end (x ∷ xs) zero (suc j) is at_i at_j same = absurd (omega (arith, same, rising_at (x + 1) end xs j is.2 (omega (arith, at_j))))
rising_one low end (x ∷ xs) (suc i) zero is at_i at_j same = absurd (omega (arith, same, rising_at (x + 1) end xs i is.2 (omega (arith, at_i))))
rising_one low end (x ∷ xs) (suc i) (suc j) is at_i at_j same = ap suc (rising_one (x + 1) end xs i j is.2 (omega (arith, at_i)) (omega (arith, at_j)) same)

-- ---- where each block lies then

module _ (first : ℕ) (tier : Tier) (places : List ℕ) (old new : TierRuns) (placed : ArePlaced first tier places old new) where
  pub there : (k : ℕ) → first ≤ k → k < first + length places → lies_at new tier k ≡ Some (get_or places (k - first) 0)
  there k low high = placed.there k ∙ moved_in first places (lies_at old tier k) k low high

  pub gone : (t : Tier) (k : ℕ) → t ≢ tier → first ≤ k → k < first + length places → lies_at new t k ≡ None
  gone t k other low high = placed.others t other k ∙ away_in first (length places) (lies_at old t k) k low high

  pub stays : (t : Tier) (k : ℕ) → (k < first) ⊎ (first + length places ≤ k) → lies_at new t k ≡ lies_at old t k
  stays t k far = elim (tier_is t tier) [
    | inl same ↦ subst (λ (u : Tier). lies_at new u k ≡ lies_at old u k) (sym same) (placed.there k ∙ moved_out first places (lies_at old tier k) k far)
    | inr other ↦ placed.others t other k ∙ away_out first (length places) (lies_at old t k) k far
  ]

  -- a block of the run lies in the tier alone
  only : (t : Tier) (k : ℕ) → first ≤ k → k < first + length places → IsSome (lies_at new t k) → t ≡ tier
  only t k low high some = elim (tier_is t tier) [ inl same ↦ same | inr other ↦ absurd (false≢true (subst IsSome (gone t k other low high) some)) ]

  pub placed_once : LieOnce old → LieOnce new
  placed_once once t u k at_t at_u = elim (run_cases first (length places) k) [
    | inl inside ↦ only t k inside.0 inside.1 at_t ∙ sym (only u k inside.0 inside.1 at_u)
    | inr far ↦ once t u k (subst IsSome (stays t k far) at_t) (subst IsSome (stays u k far) at_u)
  ]

  pub placed_below : (n : ℕ) → first + length places ≤ n → LieBelow n old → LieBelow n new
  placed_below n fits below t k at = elim (run_cases first (length places) k) [
    | inl inside ↦ omega (arith, inside.1, fits)
    | inr far ↦ below t k (subst IsSome (stays t k far) at)
  ]

  -- a block that lies somewhere else than in the tier has not moved
  pub placed_elsewhere : (t : Tier) → t ≢ tier → (k p : ℕ) → lies_at new t k ≡ Some p → lies_at old t k ≡ Some p
  placed_elsewhere t other k p at = elim (run_cases first (length places) k) [
    | inl inside ↦ absurd (none-some p (sym (gone t k other inside.0 inside.1) ∙ at))
    | inr far ↦ sym (stays t k far) ∙ at
  ]

  place_is : (k p : ℕ) → first ≤ k → k < first + length places → lies_at new tier k ≡ Some p → p ≡ get_or places (k - first) 0
  place_is k p low high at = same_Some p (get_or places (k - first) 0) (sym at ∙ there k low high)

  among : (k p : ℕ) → first ≤ k → k < first + length places → lies_at new tier k ≡ Some p → Contains places p
  among k p low high at = subst (Contains places) (sym (place_is k p low high at)) (Contains-get_or places (k - first) 0 (omega (arith, low, high)))

  one_in_tier : (low end : ℕ) → Rising low end places → ((k p : ℕ) → lies_at old tier k ≡ Some p → Contains places p → ⊥) → IsOneToOne (runs_in old tier) → IsOneToOne (runs_in new tier)
  one_in_tier low end rising fresh one b c p at_b at_c = elim (run_cases first (length places) b) [
    | inl b_in ↦ elim (run_cases first (length places) c) [
      | inl c_in ↦
          let same = rising_one low end places (b - first) (c - first) rising (omega (arith, b_in.0, b_in.1)) (omega (arith, c_in.0, c_in.1)) (sym (place_is b p b_in.0 b_in.1 at_b) ∙ place_is c p c_in.0 c_in.1 at_c) in
          omega (arith, same, b_in.0, c_in.0)
      | inr c_far ↦ absurd (fresh c p (sym (stays tier c c_far) ∙ at_c) (among b p b_in.0 b_in.1 at_b))
    ]
    | inr b_far ↦ elim (run_cases first (length places) c) [
      | inl c_in ↦ absurd (fresh b p (sym (stays tier b b_far) ∙ at_b) (among c p c_in.0 c_in.1 at_c))
      | inr c_far ↦ one b c p (sym (stays tier b b_far) ∙ at_b) (sym (stays tier c c_far) ∙ at_c)
    ]
  ]

  pub placed_apart : (low end : ℕ) → Rising low end places → ((k p : ℕ) → lies_at old tier k ≡ Some p → Contains places p → ⊥) → ((t : Tier) → IsOneToOne (runs_in old t)) → (t : Tier) → IsOneToOne (runs_in new t)
  placed_apart low end rising fresh one t = elim (tier_is t tier) [
    | inl same ↦ subst (λ (u : Tier). IsOneToOne (runs_in new u)) (sym same) (one_in_tier low end rising fresh (one tier))
    | inr other ↦ λ b c p at_b at_c. one t b c p (placed_elsewhere t other b p at_b) (placed_elsewhere t other c p at_c)
  ]

  pub placed_within : (g : Sizes) (space : Space) → first + length places ≤ blocks_in space → ((p : ℕ) → Contains places p → is_run g space p 1 ≡ true) → LiesWithin g space (runs_in old tier) → LiesWithin g space (runs_in new tier)
  placed_within g space fits may within k p at = elim (run_cases first (length places) k) [
    | inl inside ↦ (omega (arith, inside.1, fits), may p (among k p inside.0 inside.1 at))
    | inr far ↦ within k p (sym (stays tier k far) ∙ at)
  ]

  pub elsewhere_within : (g : Sizes) (space : Space) (t : Tier) → t ≢ tier → LiesWithin g space (runs_in old t) → LiesWithin g space (runs_in new t)
  elsewhere_within g space t other within k p at = within k p (placed_elsewhere t other k p at)

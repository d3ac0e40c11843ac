-- Which blocks of each tier are marked as used.
use Rattle.std.specs.Prelude.{◌≡◌, ◌≢◌, ◌⊎◌, ◌↔◌, ◌<◌, ℕ, Bool, true, false, List, length, get_or, Option, Some}
use Rattle.tier_device.specs.declared.media.Tier.{Tier}
use Rattle.tier_device.specs.declared.media.Tier.TheVariants as tiers

-- a mark for each block of a tier
pub record UsedMarks : Type 0 where
  pub fast : List Bool
  pub block : List Bool
  pub slow : List Bool

abbrev pub marks_in : UsedMarks → Tier → List Bool
marks_in m tiers.Fast = m.fast
marks_in m tiers.Block = m.block
marks_in m tiers.Slow = m.slow

abbrev pub is_marked : UsedMarks → Tier → ℕ → Bool
is_marked m t k = get_or (marks_in m t) k false

abbrev pub IsMarked : UsedMarks → Tier → ℕ → Type 0
IsMarked m t k = is_marked m t k ≡ true

-- The block can be marked.
abbrev pub HasRoom : UsedMarks → Tier → ℕ → Type 0
HasRoom m t k = k < length (marks_in m t)

-- Marked are the blocks of before and these; the same blocks can be marked.
pub record Adds (old new : UsedMarks) (more : Tier → ℕ → Type 0) : Type 0 where
  pub room : (t : Tier) → length (marks_in new t) ≡ length (marks_in old t)
  pub marked : (t : Tier) (k : ℕ) → IsMarked new t k ↔ (IsMarked old t k ⊎ more t k)

-- ---- uses of blocks, each with a block or none

-- These uses have a block each that no other of them has, and that was not marked: it is now.
pub record TakesBlocks {A : Type 0} (old new : UsedMarks) (of : A → Option (Tier × ℕ)) (these : A → Type 0) : Type 0 where
  pub adds : Adds old new (λ t k. (a : A) × (these a) × (of a ≡ Some (t, k)))
  pub fresh : (a : A) (t : Tier) (k : ℕ) → these a → of a ≡ Some (t, k) → IsMarked old t k → ⊥
  pub once : (a c : A) (t : Tier) (k : ℕ) → these a → these c → of a ≡ Some (t, k) → of c ≡ Some (t, k) → a ≡ c

-- One of these uses has a block that was marked, or that another use has.
pub record Clashes {A : Type 0} (old : UsedMarks) (of : A → Option (Tier × ℕ)) (these : A → Type 0) : Type 0 where
  pub one : A
  pub tier : Tier
  pub block : ℕ
  pub is : these one
  pub here : of one ≡ Some (tier, block)
  pub there : (IsMarked old tier block) ⊎ ((other : A) × (other ≢ one) × (of other ≡ Some (tier, block)))

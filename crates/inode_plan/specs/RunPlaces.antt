-- Where the blocks of an inode lie in memory once a run of them is moved.
use Rattle.std.specs.Prelude.{◌≡◌, ◌≢◌, ◌+◌, ◌-◌, ◌<◌, ◌^◌, ℕ, List, length, get_or, Bool, true, false, Option, Some, None, IsSome, if◌then◌else◌}
use Rattle.std.specs.List.{AllByRecursion}
use Rattle.tier_device.specs.declared.media.Tier.{Tier}
use Rattle.tier_device.specs.declared.media.Tier.TheVariants as tiers
use Rattle.block_alloc.specs.declared.runs.Run.{Run}
use Rattle.area_commit.specs.extent_tree.Places.{in_run}
use Rattle.area_commit.specs.extent_tree.Map.{TierRuns, lies_at}

-- ---- before

-- whether one tier is faster than another
abbrev pub is_faster : Tier → Tier → Bool
is_faster tiers.Fast tiers.Fast = false
is_faster tiers.Fast tiers.Block = true
is_faster tiers.Fast tiers.Slow = true
is_faster tiers.Block tiers.Fast = false
is_faster tiers.Block tiers.Block = false
is_faster tiers.Block tiers.Slow = true
is_faster tiers.Slow t = false

-- Some tier that is faster than this one has such a block.
abbrev pub InFaster : Tier → (Tier → Type 0) → Type 0
InFaster to P = (t : Tier) × (is_faster t to ≡ true) × P t

-- Each block of a run lies in a tier that is faster than this one.
abbrev pub LieAbove : TierRuns → ℕ → ℕ → Tier → Type 0
LieAbove m first count to = (k : ℕ) → in_run first count k ≡ true → InFaster to (λ t. IsSome (lies_at m t k))

-- ---- then

-- for each block of a run one of these places, in order; for each other block the old one
abbrev pub moved_to : ℕ → List ℕ → Option ℕ → ℕ → Option ℕ
moved_to first places old k = if in_run first (length places) k then Some (get_or places (k - first) 0) else old

-- for each block of a run none; for each other block the old one
abbrev pub moved_away : ℕ → ℕ → Option ℕ → ℕ → Option ℕ
moved_away first count old k = if in_run first count k then None else old

-- The blocks from a first one on lie in a tier at these places, in order, and in no other tier; all others lie where they lay.
pub record ArePlaced (first : ℕ) (tier : Tier) (places : List ℕ) (old new : TierRuns) : Type 0 where
  pub there : (k : ℕ) → lies_at new tier k ≡ moved_to first places (lies_at old tier k) k
  pub others : (t : Tier) → t ≢ tier → (k : ℕ) → lies_at new t k ≡ moved_away first (length places) (lies_at old t k) k

-- each run ends at a number of 32 bits
abbrev pub EndsFit : List Run → Type 0
EndsFit runs = AllByRecursion (λ r. r.first + r.count < 2 ^ 32) runs

-- Where the logical blocks of one inode lie in three tiers.
use Rattle.std.specs.Prelude.{◌≡◌, ◌≢◌, ◌<◌, ◌+◌, ◌-◌, ◌^◌, ℕ, nat_le, List, [], ◌∷◌, length, slice_index_or, Option, Some, None, IsSome, if◌then◌else◌}
use Rattle.std.specs.List.{flat_map, range_with_len}
use Rattle.tier_device.specs.declared.media.Tier.{Tier}
use Rattle.tier_device.specs.declared.media.Tier.TheVariants as tiers
use Rattle.layout.specs.declared.extents.Extent.{Extent}
use Rattle.block_alloc.specs.declared.runs.Run.{Run}
use Rattle.extent_tree.specs.Places.{place_of}
use Rattle.extent_tree.specs.Changes.{after}

-- the runs of each tier
pub record TierRuns : Type 0 where
  pub fast : List Extent
  pub block : List Extent
  pub slow : List Extent

abbrev pub runs_in : TierRuns → Tier → List Extent
runs_in m tiers.Fast = m.fast
runs_in m tiers.Block = m.block
runs_in m tiers.Slow = m.slow

-- the block of a tier that holds a logical block
abbrev pub lies_at : TierRuns → Tier → ℕ → Option ℕ
lies_at m t k = place_of (runs_in m t) k

-- No logical block lies in two tiers.
abbrev pub LieOnce : TierRuns → Type 0
LieOnce m = (t u : Tier) (k : ℕ) → IsSome (lies_at m t k) → IsSome (lies_at m u k) → t ≡ u

-- Each logical block that lies anywhere is one of the first n.
abbrev pub LieBelow : ℕ → TierRuns → Type 0
LieBelow n m = (t : Tier) (k : ℕ) → IsSome (lies_at m t k) → k < n

-- `count` blocks from a first one on lie in a tier from a place on and in no other tier; all others lie where they did
pub record ArePut (first count : ℕ) (tier : Tier) (place : ℕ) (old new : TierRuns) : Type 0 where
  pub there : (k : ℕ) → lies_at new tier k ≡ after first count (Some place) (runs_in old tier) k
  pub others : (t : Tier) → t ≢ tier → (k : ℕ) → lies_at new t k ≡ after first count None (runs_in old t) k

-- no block from one on lies anywhere; those before it lie where they did
abbrev pub AreCut : ℕ → TierRuns → TierRuns → Type 0
AreCut from old new = (t : Tier) (k : ℕ) → lies_at new t k ≡ (if nat_le from k then None else lies_at old t k)

-- a place, where there is one
abbrev pub place_list : Option ℕ → List ℕ
place_list None = []
place_list (Some p) = p ∷ []

-- the places of `count` blocks from a first one on, of those that some runs map
abbrev pub places_of : List Extent → ℕ → ℕ → List ℕ
places_of es first count = flat_map (λ k. place_list (place_of es k)) (range_with_len first count)

-- it has a block or more
abbrev pub HasBlock : Run → Type 0
HasBlock r = 0 < r.count

-- the block behind a run
abbrev pub run_end : Run → ℕ
run_end r = r.first + r.count

-- the last of some runs
abbrev pub last_of : List Run → Run
last_of runs = slice_index_or runs (length runs - 1) (record { first = 0; count = 0 })

-- the run ends before a block, and can be one longer
pub record EndsAt (block : ℕ) (r : Run) : Type 0 where
  pub stop : run_end r ≡ block
  pub room : r.count < 2 ^ 32 - 1

-- What several device calls leave of the past.
use Rattle.std.specs.Prelude.{ℕ, ◌≤◌, List}
use Rattle.tier_device.specs.declared.media.Tier.{Tier}

-- The clock does not go back, and what a stop may have left at each past moment does not change.
pub record PastStays (before now : ℕ) (old new : ℕ → Tier → List ℕ → Type 0) : Type 0 where
  pub later : before ≤ now
  pub nothing_else : (m : ℕ) (t : Tier) (c : List ℕ) → m ≤ before → new m t c → old m t c
  pub keeps : (m : ℕ) (t : Tier) (c : List ℕ) → m ≤ before → old m t c → new m t c

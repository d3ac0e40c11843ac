-- Trusted: headline
-- What a stop leaves of a medium, and of one that is at rest.
use Rattle.std.specs.Prelude.{◌≡◌, ℕ, List}
use Rattle.tier_device.specs.declared.media.Tier.{Tier}

-- A stop at a moment may have left these tiers.
abbrev pub Left : (ℕ → Tier → List ℕ → Type 0) → ℕ → (Tier → List ℕ) → Type 0
Left left m content = (t : Tier) → left m t (content t)

-- What a stop may leave of the tier now is what a read gives.
abbrev pub AtRest : (Tier → List ℕ) → (Tier → List ℕ → Type 0) → Tier → Type 0
AtRest seen left tier = (c : List ℕ) → left tier c → c ≡ seen tier

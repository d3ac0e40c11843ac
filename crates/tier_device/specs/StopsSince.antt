-- What a stop leaves of a medium from a moment on.
use Rattle.std.specs.Prelude.{ℕ, ◌≤◌, List}
use Rattle.tier_device.specs.declared.media.Tier.{Tier}

-- A stop at some moment from t on may have left this of the tier.
abbrev pub LeftSince : (ℕ → Tier → List ℕ → Type 0) → ℕ → ℕ → Tier → List ℕ → Type 0
LeftSince left now t tier c = (m : ℕ) × (t ≤ m) × (m ≤ now) × left m tier c

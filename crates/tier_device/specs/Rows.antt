-- Three tiers in memory, as their bytes.
use Rattle.std.specs.Prelude.{ℕ, List}
use Rattle.tier_device.specs.declared.media.Tier.{Tier}
use Rattle.tier_device.specs.declared.media.Tier.TheVariants.{Fast, Block, Slow}

pub record Rows : Type 0 where
  pub fast : List ℕ
  pub block : List ℕ
  pub slow : List ℕ

-- the bytes of one tier
abbrev pub row : Rows → Tier → List ℕ
row rows Fast = rows.fast
row rows Block = rows.block
row rows Slow = rows.slow

-- Where three tiers lie in one row of bytes: the fast one first, then that of blocks, then the slow one.
use Rattle.std.specs.Prelude.{ℕ, ◌+◌, length}
use Rattle.tier_device.specs.declared.media.Tier.{Tier}
use Rattle.tier_device.specs.declared.media.Tier.TheVariants.{Fast, Block, Slow}
use Rattle.tier_device.specs.Rows.{Rows}

-- where a tier begins
abbrev pub begin_of : Rows → Tier → ℕ
begin_of rows Fast = 0
begin_of rows Block = length rows.fast
begin_of rows Slow = length rows.fast + length rows.block

-- how many bytes there are
abbrev pub total : Rows → ℕ
total rows = length rows.fast + length rows.block + length rows.slow

-- What three tiers held at first, and the writes and fences since.
use Rattle.std.specs.Prelude.{List, [], ◌∷◌, ◌++◌}
use Rattle.tier_device.specs.declared.media.Tier.TheVariants.{Fast, Block, Slow}
use Rattle.tier_device.specs.DeviceCall.{DeviceCall, Fence}
use Rattle.tier_device.specs.Rows.{Rows}

pub record History : Type 0 where
  pub first : Rows
  pub calls : List DeviceCall

abbrev pub initial_history : Rows → History
initial_history rows = record { first = rows; calls = [] }

-- with one call more
abbrev pub and_then : History → DeviceCall → History
and_then h x = record h { calls = h.calls ++ x ∷ [] }

-- with a fence of each tier
abbrev pub after_sync : History → History
after_sync h = and_then (and_then (and_then h (Fence Fast)) (Fence Block)) (Fence Slow)

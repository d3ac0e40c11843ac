-- A call that moved the clock of a medium.
use Rattle.std.specs.Prelude.{ℕ, List}
use Rattle.tier_device.specs.declared.media.Tier.{Tier}

pub data DeviceCall : Type 0 where
  Write : Tier → ℕ → List ℕ → DeviceCall
  Fence : Tier → DeviceCall

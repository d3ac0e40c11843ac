-- Which tiers were written since the last sync.
use Rattle.std.specs.Prelude.{◌≡◌, ◌≢◌, Bool, true}
use Rattle.tier_device.specs.declared.media.Tier.{Tier}
use Rattle.tier_device.specs.declared.media.Tier.TheVariants.{Fast, Block, Slow}
use Rattle.host_media.specs.declared.pending_tiers.Pending.{Pending}

abbrev pub pending_in : Pending → Tier → Bool
pending_in p Fast = p.fast
pending_in p Block = p.block
pending_in p Slow = p.slow

-- this tier more
pub record SetsPending (tier : Tier) (old new : Pending) : Type 0 where
  pub here : pending_in new tier ≡ true
  pub others : (u : Tier) → u ≢ tier → pending_in new u ≡ pending_in old u

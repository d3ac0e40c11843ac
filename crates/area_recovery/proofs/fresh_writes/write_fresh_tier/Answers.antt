use Rattle.std.proofs.Common.{ap, sym, ◌∙◌, length}
use Rattle.area_recovery.proofs.FreshTiers.{tier_long}
use Rattle.area_recovery.proofs.fresh_writes.write_fresh_tier.Goals as goal

pub write_tier-requires : goal.write_tier-requires
write_tier-requires g c = record { all = ap length (c.as_slice.ensures.value ∙ c.in_ok-bytes.ensures) ∙ tier_long c.args.geometry.now c.args.tier ∙ sym c.requires.size }

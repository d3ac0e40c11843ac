use Rattle.std.proofs.Common.{arith}
use Rattle.recovery_laws.specs.Fresh.{fresh_tiers}
use Rattle.tier_device.specs.declared.media.Tier.TheVariants.{Fast}
use Rattle.area_recovery.proofs.FreshTiers.{holds_with}
use Rattle.area_recovery.proofs.fresh_writes.write_area.Goals as goal

pub returns-clause-holds : goal.returns-clause-holds
returns-clause-holds g c =
    let fast = c.in_ok-write_fresh_tier.ensures.holds in
    let two = c.in_ok-write_fresh_tier-2.ensures in
    holds_with g.M.Media (fresh_tiers c.args.geometry.now) c.write_fresh_tier-2.new.medium c.write_fresh_tier-3.new.medium c.write_fresh_tier-3.result (two.others Fast _ (λ e. grind arith) fast) two.holds
    c.write_fresh_tier-3.ensures.others c.write_fresh_tier-3.ensures.holds

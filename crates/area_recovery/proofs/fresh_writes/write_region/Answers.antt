use Rattle.std.proofs.Common.{ap, sym, subst, ◌∙◌, length}
use Rattle.std.proofs.lemmas.Result.{on_ok_weaker}
use Rattle.recovery_laws.proofs.Regions.{region_long}
use Rattle.recovery_laws.specs.Fresh.{fresh_region}
use Rattle.tier_device.specs.declared.media.Tier.TheVariants.{Fast}
use Rattle.area_recovery.specs.FreshContents.{TierHolds}
use Rattle.area_recovery.proofs.FreshTiers.{region_holds}
use Rattle.area_recovery.proofs.fresh_writes.write_region.Goals as goal

pub write_tier-requires : goal.write_tier-requires
write_tier-requires g c = record { all = ap length (c.as_slice.ensures.value ∙ c.in_ok-bytes.ensures) ∙ region_long c.args.generation ∙ sym c.requires.size.fast }

pub returns-clause-holds : goal.returns-clause-holds
returns-clause-holds g c =
    let m = g.M.Media in
    let new = c.write_tier.new.medium in
    on_ok_weaker c.write_tier.result (λ h. region_holds m g.met.M.Media.sized (fresh_region c.args.generation) c.args.medium.now new c.requires.size c.write_tier.ensures.later
    (subst (λ bytes. TierHolds m Fast bytes new) (c.as_slice.ensures.value ∙ c.in_ok-bytes.ensures) h)) c.write_tier.ensures.holds

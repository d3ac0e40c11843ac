use Rattle.std.proofs.Common.{◌≡◌, true, refl, sym, subst}
use Rattle.tier_device.specs.declared.media.Tier.{Tier}
use Rattle.tier_device.specs.declared.media.Tier.TheVariants as tiers
use Rattle.shared_area.specs.area_reader.Store.{disk}
use Rattle.shared_area.specs.inode_plan.RunPlaces.{is_faster}
use Rattle.migrator.proofs.Movable.{pick_may_be_moved}
use Rattle.migrator.proofs.run_choice.pick.Goals as goal

pub returns-in-Block-clause-may_be_moved : goal.returns-in-Block-clause-may_be_moved
returns-in-Block-clause-may_be_moved g c =
    let old = c.args.area.now in
    let faster = subst (λ (t : Tier). is_faster tiers.Fast t ≡ true) (sym c.in-Block.is) refl in
    pick_may_be_moved old.geometry (disk g.M.Media old) tiers.Fast c.args.to faster c.pick_in.result c.pick_in.ensures.picked

pub returns-in-Slow-clause-may_be_moved : goal.returns-in-Slow-clause-may_be_moved
returns-in-Slow-clause-may_be_moved g c =
    let old = c.args.area.now in
    let faster = subst (λ (t : Tier). is_faster tiers.Block t ≡ true) (sym c.in-Slow.is) refl in
    pick_may_be_moved old.geometry (disk g.M.Media old) tiers.Block c.args.to faster c.pick_in-in-Slow.result c.pick_in-in-Slow.ensures.picked

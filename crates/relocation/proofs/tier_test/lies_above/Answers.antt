use Rattle.std.proofs.Common.{rules, sym, subst, ◌∙◌, ap}
use Rattle.std.specs.Prelude.{IsSome}
use Rattle.tier_device.specs.declared.media.Tier.{Tier}
use Rattle.inode_plan.specs.extent_tree.Map.{lies_at}
use Rattle.inode_plan.specs.RunPlaces.{is_faster, InFaster}
use Rattle.relocation.proofs.tier_test.lies_above.Goals as goal

pub returns-in-Some : goal.returns-in-Some
returns-in-Some c =
    let m = c.args.map.now in
    let place = c.in-Some.place in
    let here : IsSome (lies_at m place.tier c.args.block) = subst IsSome (sym c.in-Some.ensures.found) (search rules) in (
      λ yes. (place.tier, sym c.is_faster.ensures ∙ yes, here),
      λ (above : InFaster c.args.to (λ (t : Tier). IsSome (lies_at m t c.args.block))).
          c.is_faster.ensures ∙ ap (λ (t : Tier). is_faster t c.args.to) (c.requires place.tier above.0 c.args.block here above.2) ∙ above.1,
    )

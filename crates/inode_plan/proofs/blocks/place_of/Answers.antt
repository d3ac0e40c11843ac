use Rattle.std.proofs.Common.{sym, ◌∙◌}
use Rattle.std.proofs.lemmas.Option.{none-some}
use Rattle.tier_device.specs.declared.media.Tier.TheVariants.{Fast}
use Rattle.inode_plan.proofs.Parts.{pool_place}
use Rattle.inode_plan.proofs.Lists.{node_room}
use Rattle.inode_plan.proofs.blocks.place_of.Goals as goal

pub block_number-requires : goal.block_number-requires
block_number-requires c =
    let g = c.args.geometry.now in
    let p = pool_place g c.args.found.now c.args.count c.requires.lie c.args.block c.requires.inside c.in-Some.field-0-0 c.in-Some.place c.in-Some.ensures.some in
    node_room g c.in-Some.place p.1

pub unreachable-requires : goal.unreachable-requires
unreachable-requires c =
    let there = c.requires.lie.there c.args.block c.requires.inside in
    none-some there.0 (sym (c.in-None.ensures.none Fast) ∙ there.1)

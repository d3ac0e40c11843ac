use Rattle.std.proofs.Common.{◌∙◌, sym, subst}
use Rattle.tier_device.specs.declared.media.Tier.{Tier}
use Rattle.inode_plan.specs.layout.Places.{Sizes}
use Rattle.inode_plan.specs.extent_tree.BlockFormat.{LiesWithin}
use Rattle.inode_plan.specs.extent_tree.Map.{runs_in}
use Rattle.inode_plan.specs.area_reader.Store.{Store, disk, space_of}
use Rattle.inode_plan.proofs.area_reader_lemmas.Parts.{extents_all}
use Rattle.inode_plan.proofs.area_reader_lemmas.Tails.{place_is}
use Rattle.inode_plan.specs.Lists.{AreOwnLists}
use Rattle.relocation.proofs.run_search.read_map.Goals as goal

pub map_of-requires : goal.map_of-requires
map_of-requires g c = (
  c.args.inode,
  c.args.slot.now,
  subst (λ (x : Sizes). AreOwnLists x c.args.inode c.args.slot.now c.in_ok-found.found) (sym c.geometry-geometry.ensures) (λ t. (c.in_ok-found.ensures.extents t).list),
)

pub returns-clause-places : goal.returns-clause-places
returns-clause-places g c t k =
    let old = c.args.journal.now in
    let s : Store = disk g.M.Media old in
    let found = extents_all old.geometry s c.args.inode c.args.slot.now c.in_ok-found.found c.requires.slot_is c.in_ok-found.ensures.extents in
    c.in_ok-map_of.ensures.places t k ∙ sym (place_is old.geometry s c.args.inode c.in_ok-found.found found t k)

pub returns-clause-within : goal.returns-clause-within
returns-clause-within g c =
    subst (λ (x : Sizes). AreOwnLists x c.args.inode c.args.slot.now c.in_ok-found.found → (t : Tier) → LiesWithin x (space_of c.args.slot.now t) (runs_in c.in_ok-map_of.field-0 t)) c.geometry-geometry.ensures
    (c.in_ok-map_of.ensures.within c.args.inode c.args.slot.now) (λ t. (c.in_ok-found.ensures.extents t).list)

use Rattle.std.proofs.Common.{◌∙◌, sym, subst}
use Rattle.std.proofs.lemmas.Result.{err_from_is_err_and}
use Rattle.tier_device.specs.declared.media.Tier.{Tier}
use Rattle.inode_plan.specs.layout.Places.{Sizes}
use Rattle.inode_plan.specs.extent_tree.BlockFormat.{LiesWithin}
use Rattle.inode_plan.specs.extent_tree.Map.{runs_in}
use Rattle.inode_plan.specs.area_reader.Store.{Store, disk, space_of}
use Rattle.inode_plan.proofs.area_reader_lemmas.Parts.{extents_all}
use Rattle.inode_plan.proofs.area_reader_lemmas.Tails.{place_is}
use Rattle.inode_plan.specs.Lists.{AreOwnLists}
use Rattle.change_plan.proofs.NoDamage.{no_damage}
use Rattle.change_plan.proofs.inode_drop.read_map.Goals as goal

pub map_of-requires : goal.map_of-requires
map_of-requires g c = (
  c.args.inode,
  c.args.slot.now,
  subst (λ (x : Sizes). AreOwnLists x c.args.inode c.args.slot.now c.in_ok-found.found) (sym c.geometry-geometry.ensures) (λ t. (c.in_ok-found.ensures.extents t).list),
)

pub returns-clause-places : goal.returns-clause-places
returns-clause-places g c t k =
    let old = c.args.journal.now in
    let s : Store = disk g.M.Media old in
    let found = extents_all old.geometry s c.args.inode c.args.slot.now c.in_ok-found.found c.requires.slot_is c.in_ok-found.ensures.extents in
    c.in_ok-map.ensures.places t k ∙ sym (place_is old.geometry s c.args.inode c.in_ok-found.found found t k)

pub returns-clause-within : goal.returns-clause-within
returns-clause-within g c =
    subst (λ (x : Sizes). AreOwnLists x c.args.inode c.args.slot.now c.in_ok-found.found → (t : Tier) → LiesWithin x (space_of c.args.slot.now t) (runs_in c.in_ok-map.map t)) c.geometry-geometry.ensures
    (c.in_ok-map.ensures.within c.args.inode c.args.slot.now) (λ t. (c.in_ok-found.ensures.extents t).list)

pub returns-in_err-found-clause-only : goal.returns-in_err-found-clause-only
returns-in_err-found-clause-only g c =
    let old = c.args.journal.now in
    let s : Store = disk g.M.Media old in
    let p = err_from_is_err_and c.from_residual.result c.from_residual.ensures.1 in
    rw (p.1, p.2) (no_damage old.geometry s c.args.inode c.args.slot.now c.in_err-found.field-0.0 c.requires.slot_is (c.requires.spelled.inodes c.args.inode c.requires.number) c.in_err-found.ensures.damaged)

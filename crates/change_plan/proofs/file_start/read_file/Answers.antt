use Rattle.std.proofs.Common.{◌∙◌, sym, subst}
use Rattle.std.proofs.lemmas.Result.{err_from_is_err_and}
use Rattle.tier_device.specs.declared.media.Tier.{Tier}
use Rattle.inode_plan.specs.layout.Places.{Sizes}
use Rattle.inode_plan.specs.extent_tree.BlockFormat.{LiesWithin}
use Rattle.inode_plan.specs.extent_tree.Map.{runs_in}
use Rattle.inode_plan.specs.area_reader.Store.{Store, disk, space_of}
use Rattle.inode_plan.proofs.area_reader_lemmas.Lists.{slot_here_fits}
use Rattle.inode_plan.proofs.area_reader_lemmas.Parts.{extents_all, slot_as}
use Rattle.inode_plan.proofs.area_reader_lemmas.Tails.{place_is}
use Rattle.inode_plan.specs.Lists.{AreOwnLists, LieAsIn}
use Rattle.inode_plan.specs.layout.Slot.{fits_slot}
use Rattle.inode_plan.specs.layout.declared.slot.Slot.{Slot}
use Rattle.std.specs.Prelude.{◌≡◌, true}
use Rattle.change_plan.proofs.StartsFile.{kept_kind, kept_blocks, kept_map, no_damage}
use Rattle.change_plan.proofs.file_start.read_file.Goals as goal

pub read_all_extents-requires : goal.read_all_extents-requires
read_all_extents-requires g c =
    let old = c.args.journal.now in
    let s : Store = disk g.M.Media old in
    subst (λ (y : Slot). fits_slot old.geometry y ≡ true) (slot_as old.geometry s c.args.inode c.args.slot.now c.requires.slot_is) (slot_here_fits old.geometry s c.args.inode)

pub map_of-requires : goal.map_of-requires
map_of-requires g c = (
  c.args.inode,
  c.args.slot.now,
  subst (λ (x : Sizes). AreOwnLists x c.args.inode c.args.slot.now c.in_ok-found.found) (sym c.geometry-geometry.ensures) (λ t. (c.in_ok-found.ensures.extents t).list),
)

pub returns-clause-started : goal.returns-clause-started
returns-clause-started g c =
    let old = c.args.journal.now in
    let s : Store = disk g.M.Media old in
    let found = extents_all old.geometry s c.args.inode c.args.slot.now c.in_ok-found.found c.requires.slot_is c.in_ok-found.ensures.extents in
    let places : LieAsIn old.geometry s c.args.inode c.in_ok-map.map = λ t k. c.in_ok-map.ensures.places t k ∙ sym (place_is old.geometry s c.args.inode c.in_ok-found.found found t k) in
    let within = subst (λ (x : Sizes). AreOwnLists x c.args.inode c.args.slot.now c.in_ok-found.found → (t : Tier) → LiesWithin x (space_of c.args.slot.now t) (runs_in c.in_ok-map.map t)) c.geometry-geometry.ensures
    (c.in_ok-map.ensures.within c.args.inode c.args.slot.now) (λ t. (c.in_ok-found.ensures.extents t).list) in
    record {
      kind_is = kept_kind old.geometry s c.args.inode c.args.slot.now c.requires.slot_is c.requires.file;
      slot_is = sym (slot_as old.geometry s c.args.inode c.args.slot.now c.requires.slot_is);
      map = kept_map old.geometry s c.args.inode c.args.slot.now c.requires.slot_is c.requires.file c.in_ok-map.map (c.requires.spelled.inodes c.args.inode c.requires.number) places within;
      found = found;
      blocks = kept_blocks old.geometry s c.args.inode c.args.slot.now c.requires.slot_is c.requires.file;
    }

pub returns-in_err-found-clause-only : goal.returns-in_err-found-clause-only
returns-in_err-found-clause-only g c =
    let old = c.args.journal.now in
    let s : Store = disk g.M.Media old in
    let p = err_from_is_err_and c.from_residual.result c.from_residual.ensures.1 in
    rw (p.1, p.2) (no_damage old.geometry s c.args.inode c.args.slot.now c.in_err-found.field-0.0 c.requires.slot_is (c.requires.spelled.inodes c.args.inode c.requires.number) c.in_err-found.ensures.damaged)

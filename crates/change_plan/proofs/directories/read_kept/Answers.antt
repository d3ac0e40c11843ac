use Rattle.std.proofs.Common.{◌≡◌, Some, sym, subst, true}
use Rattle.std.proofs.lemmas.Result.{err_from_is_err_and, IfOk-weaker}
use Rattle.tier_device.specs.declared.media.Tier.TheVariants as tiers
use Rattle.inode_plan.specs.file_graph.declared.effect.Kind.TheVariants as kind
use Rattle.inode_plan.specs.graph_change.Net.{Kept}
use Rattle.inode_plan.specs.layout.Places.{Sizes}
use Rattle.inode_plan.specs.layout.Slot.{fits_slot}
use Rattle.inode_plan.specs.area_reader.Map.{HasAllExtents}
use Rattle.inode_plan.specs.area_reader.Format.{IsSpelled}
use Rattle.inode_plan.specs.area_reader.Store.{Store, disk, slot_read, inode}
use Rattle.inode_plan.proofs.area_reader_lemmas.Looked.{carried, carried_back, looks_on}
use Rattle.inode_plan.specs.DirectoryStart.{IsStarted, IsSoundStart}
use Rattle.change_plan.proofs.NoDamage.{no_damage}
use Rattle.change_plan.proofs.directories.read_kept.Goals as goal

pub read_directory-requires : goal.read_directory-requires
read_directory-requires g c =
    let m = g.M.Media in
    let old = c.args.journal.now in
    let new = c.read_all_extents.new.journal in
    let looks = c.in_ok-extents.ensures.looks in
    let x = c.args.slot in
    record {
      parts = record {
        spelled = carried m IsSpelled old new _ looks c.requires.spelled;
        number = c.requires.number;
        slot_is = carried m (λ h s. slot_read h s c.args.inode ≡ Some x) old new _ looks c.requires.slot_is;
        fits = subst (λ (h : Sizes). fits_slot h x ≡ true) (sym looks.geometry) c.requires.fits;
        kind_is = carried m (λ h s. (inode h s c.args.inode).kind ≡ Some kind.Directory) old new _ looks c.requires.is_directory;
        extents = carried m (λ h s. HasAllExtents h (s tiers.Fast) c.args.inode x c.in_ok-extents.extents) old new _ looks c.in_ok-extents.ensures.extents;
      };
      going = looks.going.1;
    }

pub returns-clause-started : goal.returns-clause-started
returns-clause-started g c =
    let m = g.M.Media in
    IfOk-weaker c.read_directory.result _ _ (λ start is. carried_back m (λ h s. IsStarted h s Kept c.args.inode start) c.args.journal.now c.read_all_extents.new.journal _ c.in_ok-extents.ensures.looks is) c.read_directory.ensures.started

pub returns-clause-sound : goal.returns-clause-sound
returns-clause-sound g c = IfOk-weaker c.read_directory.result _ _ (λ start is. subst (λ (h : Sizes). IsSoundStart h start) c.in_ok-extents.ensures.looks.geometry is) c.read_directory.ensures.sound

pub returns-clause-looks : goal.returns-clause-looks
returns-clause-looks g c = looks_on g.M.Media c.args.journal.now c.read_all_extents.new.journal c.read_directory.new.journal c.in_ok-extents.extents c.read_directory.result c.in_ok-extents.ensures.looks c.read_directory.ensures.looks

pub returns-in_err-extents-clause-only : goal.returns-in_err-extents-clause-only
returns-in_err-extents-clause-only g c =
    let old = c.args.journal.now in
    let s : Store = disk g.M.Media old in
    let p = err_from_is_err_and c.from_residual.result c.from_residual.ensures.1 in
    rw (p.1, p.2) (no_damage old.geometry s c.args.inode c.args.slot c.in_err-extents.field-0.0 c.requires.slot_is (c.requires.spelled.inodes c.args.inode c.requires.number) c.in_err-extents.ensures.damaged)

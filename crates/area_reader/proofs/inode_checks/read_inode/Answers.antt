use Rattle.std.proofs.Common.{◌≡◌, Ok, Err, Some, true, inl, inr}
use Rattle.std.proofs.lemmas.Result.{err_from_is_err_and}
use Rattle.batch_journal.specs.layout.Slot.{fits_slot}
use Rattle.area_reader.specs.Store.{disk, slot_read}
use Rattle.area_reader.specs.Format.{SpellsInode}
use Rattle.area_reader.specs.Checks.{HasFound, HasPart, IsOwnDamage}
use Rattle.area_reader.proofs.Parts.{on_damage, own_damage}
use Rattle.area_reader.proofs.Looked.{carried, carried_back, looks_on, looks_err, looks_answer}
use Rattle.area_reader.proofs.inode_checks.read_inode.Goals as goal

pub check_parts-requires-clause-slot : goal.check_parts-requires-clause-slot
check_parts-requires-clause-slot g c =
    let m = g.M.Media in
    carried m (λ x s. slot_read x s c.args.inode ≡ Some c.in_ok-parts.parts.slot) c.args.journal.now c.read_parts.new.journal (Ok c.in_ok-parts.parts) c.in_ok-parts.ensures.looks c.in_ok-parts.ensures.slot

pub check_parts-requires-clause-fits : goal.check_parts-requires-clause-fits
check_parts-requires-clause-fits g c =
    let m = g.M.Media in
    carried m (λ x s. fits_slot x c.in_ok-parts.parts.slot ≡ true) c.args.journal.now c.read_parts.new.journal (Ok c.in_ok-parts.parts) c.in_ok-parts.ensures.looks c.in_ok-parts.ensures.fits

pub check_parts-requires-clause-found : goal.check_parts-requires-clause-found
check_parts-requires-clause-found g c =
    let m = g.M.Media in
    carried m (λ x s. HasFound x s c.args.inode c.in_ok-parts.parts.extents) c.args.journal.now c.read_parts.new.journal (Ok c.in_ok-parts.parts) c.in_ok-parts.ensures.looks c.in_ok-parts.ensures.extents

pub check_parts-requires-clause-going : goal.check_parts-requires-clause-going
check_parts-requires-clause-going g c = c.in_ok-parts.ensures.looks.going.1

pub returns-clause-spelled : goal.returns-clause-spelled
returns-clause-spelled g c =
    let m = g.M.Media in
    carried_back m (λ x s. SpellsInode x s c.args.inode) c.args.journal.now c.read_parts.new.journal (Ok c.in_ok-parts.parts) c.in_ok-parts.ensures.looks c.in_ok-check_parts.ensures.spelled

pub returns-clause-looks : goal.returns-clause-looks
returns-clause-looks g c =
    let m = g.M.Media in
    looks_answer m c.args.journal.now c.check_parts.new.journal tt c.in_ok-parts.parts
    (looks_on m c.args.journal.now c.read_parts.new.journal c.check_parts.new.journal c.in_ok-parts.parts (Ok tt) c.in_ok-parts.ensures.looks c.in_ok-check_parts.ensures.looks)

pub returns-in_err-check_parts-clause-own : goal.returns-in_err-check_parts-clause-own
returns-in_err-check_parts-clause-own g c =
    let m = g.M.Media in
    let p = err_from_is_err_and c.from_residual-in_err-check_parts.result c.from_residual-in_err-check_parts.ensures.1 in
    rw (p.1, p.2) (on_damage c.in_err-check_parts.field-0.0 (λ w b d. carried_back m (λ x s. IsOwnDamage x s c.args.inode w b) c.args.journal.now c.read_parts.new.journal (Ok c.in_ok-parts.parts) c.in_ok-parts.ensures.looks d) c.in_err-check_parts.ensures.own)

pub returns-in_err-check_parts-clause-damaged : goal.returns-in_err-check_parts-clause-damaged
returns-in_err-check_parts-clause-damaged g c =
    let m = g.M.Media in
    let old = c.args.journal.now in
    let p = err_from_is_err_and c.from_residual-in_err-check_parts.result c.from_residual-in_err-check_parts.ensures.1 in
    rw (p.1, p.2) (on_damage c.in_err-check_parts.field-0.0 (λ w b d. own_damage old.geometry (disk m old) c.args.inode w b
    (carried_back m (λ x s. IsOwnDamage x s c.args.inode w b) old c.read_parts.new.journal (Ok c.in_ok-parts.parts) c.in_ok-parts.ensures.looks d)) c.in_err-check_parts.ensures.own)

pub returns-in_err-check_parts-clause-memory : goal.returns-in_err-check_parts-clause-memory
returns-in_err-check_parts-clause-memory g c =
    let m = g.M.Media in
    let p = err_from_is_err_and c.from_residual-in_err-check_parts.result c.from_residual-in_err-check_parts.ensures.1 in
    rw (p.1, p.2) (λ is. inr (carried_back m (λ x s. HasPart x s c.args.inode) c.args.journal.now c.read_parts.new.journal (Ok c.in_ok-parts.parts) c.in_ok-parts.ensures.looks (c.in_err-check_parts.ensures.memory is)))

pub returns-in_err-check_parts-clause-looks : goal.returns-in_err-check_parts-clause-looks
returns-in_err-check_parts-clause-looks g c =
    let m = g.M.Media in
    let p = err_from_is_err_and c.from_residual-in_err-check_parts.result c.from_residual-in_err-check_parts.ensures.1 in
    rw (p.1, p.2) (looks_err m c.args.journal.now c.check_parts.new.journal c.in_err-check_parts.field-0.0
    (looks_on m c.args.journal.now c.read_parts.new.journal c.check_parts.new.journal c.in_ok-parts.parts (Err c.in_err-check_parts.field-0.0) c.in_ok-parts.ensures.looks c.in_err-check_parts.ensures.looks))

pub returns-in_err-parts-clause-damaged : goal.returns-in_err-parts-clause-damaged
returns-in_err-parts-clause-damaged g c =
    let m = g.M.Media in
    let old = c.args.journal.now in
    let p = err_from_is_err_and c.from_residual.result c.from_residual.ensures.1 in
    rw (p.1, p.2) (on_damage c.in_err-parts.field-0.0 (own_damage old.geometry (disk m old) c.args.inode) c.in_err-parts.ensures.own)

pub returns-in_err-parts-clause-memory : goal.returns-in_err-parts-clause-memory
returns-in_err-parts-clause-memory g c =
    let p = err_from_is_err_and c.from_residual.result c.from_residual.ensures.1 in
    rw (p.1, p.2) (λ is. inl (c.in_err-parts.ensures.memory is))

use Rattle.std.proofs.Common.{◌≡◌, false}
use Rattle.std.proofs.lemmas.Result.{err_from_is_err_and}
use Rattle.area_reader.specs.Store.{disk}
use Rattle.area_reader.proofs.Parts.{on_damage, own_damage}
use Rattle.shared_area.proofs.Sound.{undamaged}
use Rattle.shared_area.proofs.block_search.sound_parts.Goals as goal

pub returns-in_err-parts-clause-only : goal.returns-in_err-parts-clause-only
returns-in_err-parts-clause-only g c =
    let old = c.args.journal.now in
    let s = disk g.M.Media old in
    let error = c.in_err-parts.field-0.0 in
    let p = err_from_is_err_and c.from_residual.result c.from_residual.ensures.1 in
    rw (p.1, p.2) (undamaged old.geometry s error (old.failed ≡ false) (λ other. (c.in_err-parts.ensures.looks.quiet_refused other).1) c.requires.opens
    (on_damage error (own_damage old.geometry s c.args.inode) c.in_err-parts.ensures.own))

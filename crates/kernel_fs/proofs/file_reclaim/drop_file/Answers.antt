use Rattle.std.proofs.Common.{inl, refl, sym, subst, arith}
use Rattle.std.specs.Prelude.{Err}
use Rattle.std.proofs.lemmas.Result.{err_from_is_err_and}
use Rattle.migrator.specs.area_reader.Store.{Store, disk}
use Rattle.kernel_fs.specs.Reclaim.{ReclaimsOrStays}
use Rattle.kernel_fs.specs.declared.error.ReclaimError.{ReclaimError}
use Rattle.kernel_fs.specs.declared.error.ReclaimError.TheVariants as errors
use Rattle.kernel_fs.proofs.Dropping.{still_open}
use Rattle.kernel_fs.proofs.Reclaimed.{not_fault, nothing_stays}
use Rattle.kernel_fs.proofs.file_reclaim.drop_file.Goals as goal

pub returns-in_err-change-clause-any_moment : goal.returns-in_err-change-clause-any_moment
returns-in_err-change-clause-any_moment g c =
    let m = g.M.Media in
    let old = c.args.area.now in
    let s : Store = disk m old in
    still_open old.geometry s c.args.inode (m.moment old.media) (m.left old.media) (m.moment old.media) (m.seen old.media) (m.seen old.media) (m.left old.media)
    (record { clock = refl; reads = λ t. refl; past = λ n t x le l. l; kept = λ n t x le l. l }) (c.left_now.ensures.same c.requires.going) (c.left_now.ensures.loose c.requires.going)

pub returns-in_err-change-clause-stays : goal.returns-in_err-change-clause-stays
returns-in_err-change-clause-stays g c =
    let m = g.M.Media in
    let old = c.args.area.now in
    let p = err_from_is_err_and c.from_residual.result c.from_residual.ensures.1 in
    rw (p.1, p.2) (subst (λ (e : ReclaimError). ReclaimsOrStays m old old (Err e)) (sym c.in_err-change.ensures.only) (nothing_stays m old errors.Memory not_fault c.requires.going))

pub returns-in_err-change-clause-at_most : goal.returns-in_err-change-clause-at_most
returns-in_err-change-clause-at_most g c = inl (omega arith)

use Rattle.std.proofs.Common.{Err, ap, ◌∙◌}
use Rattle.recovery_laws.specs.layout.Places.{Sizes}
use Rattle.recovery_laws.specs.area_reader.Store.{Store, disk, graph, store_of}
use Rattle.recovery_laws.proofs.batch_journal_lemmas.Courses.{tiers_same}
use Rattle.area_recovery.proofs.Changing.{drop_stays, dropped_one, kept_one, reclaim_answers}
use Rattle.area_recovery.proofs.file_drops.drop_file.Goals as goal

pub returns-in-Ok-clause-any_moment : goal.returns-in-Ok-clause-any_moment
returns-in-Ok-clause-any_moment g c = drop_stays g.M.Media g.met.M.Media.seen_now c.args.area.now c.drop_nameless.new.area (c.left_now.ensures.same c.requires.going) c.args.inode c.in-Ok.ensures.any_moment c.in-Ok.ensures.untouched

pub returns-in-Err-InUse-clause-any_moment : goal.returns-in-Err-InUse-clause-any_moment
returns-in-Err-InUse-clause-any_moment g c = drop_stays g.M.Media g.met.M.Media.seen_now c.args.area.now c.drop_nameless.new.area (c.left_now.ensures.same c.requires.going) c.args.inode c.in-Err-InUse.ensures.any_moment c.in-Err-InUse.ensures.untouched

pub returns-in-Err-DeviceFault-clause-any_moment : goal.returns-in-Err-DeviceFault-clause-any_moment
returns-in-Err-DeviceFault-clause-any_moment g c = drop_stays g.M.Media g.met.M.Media.seen_now c.args.area.now c.drop_nameless.new.area (c.left_now.ensures.same c.requires.going) c.args.inode c.in-Err-DeviceFault.ensures.any_moment c.in-Err-DeviceFault.ensures.untouched

pub returns-in-Err-Memory-clause-any_moment : goal.returns-in-Err-Memory-clause-any_moment
returns-in-Err-Memory-clause-any_moment g c = drop_stays g.M.Media g.met.M.Media.seen_now c.args.area.now c.drop_nameless.new.area (c.left_now.ensures.same c.requires.going) c.args.inode c.in-Err-Memory.ensures.any_moment c.in-Err-Memory.ensures.untouched

pub returns-in-Ok-clause-dropped : goal.returns-in-Ok-clause-dropped
returns-in-Ok-clause-dropped g c =
    let m = g.M.Media in
    let old = c.args.area.now in
    let new = c.drop_nameless.new.area in
    ap (λ (h : Sizes). graph h (disk m new)) c.in-Ok.ensures.stays.geometry ∙ c.in-Ok.ensures.dropped.graph_after ∙ dropped_one c.args.inode (graph old.geometry (disk m old)) c.in-Ok.ensures.was

pub returns-in-Err-InUse-clause-dropped : goal.returns-in-Err-InUse-clause-dropped
returns-in-Err-InUse-clause-dropped g c =
    let m = g.M.Media in
    let old = c.args.area.now in
    let new = c.drop_nameless.new.area in
    let un = c.in-Err-InUse.ensures.stays.unmoved (λ e. cc (e, c.in-Err-InUse.field-0-is)) in
    ap (λ (h : Sizes). graph h (disk m new)) c.in-Err-InUse.ensures.stays.geometry
    ∙ ap (λ (s : Store). graph old.geometry s) (ap store_of (tiers_same (m.seen old.media) (m.seen new.media) un.reads))
    ∙ kept_one c.args.inode (graph old.geometry (disk m old)) (c.in-Err-InUse.ensures.in_use (ap Err c.in-Err-InUse.field-0-is))

pub returns-in-Err-DeviceFault-clause-answers : goal.returns-in-Err-DeviceFault-clause-answers
returns-in-Err-DeviceFault-clause-answers g c = reclaim_answers g.M.Media c.args.area.now c.drop_nameless.new.area c.in-Err-DeviceFault.field-0 c.in-Err-DeviceFault.ensures.stays c.in-Err-DeviceFault.field-0-is

use Rattle.std.proofs.Common.{sym, subst}
use Rattle.std.proofs.lemmas.Result.{err_from_is_err_and}
use Rattle.recovery_laws.specs.digester.DigestStep.{NamesFirstBad}
use Rattle.recovery_laws.specs.area_reader.Store.{disk}
use Rattle.area_recovery.proofs.DigestAnswers.{each_err, memory_answers, next_digested, three_ok}
use Rattle.area_recovery.proofs.DigestedContents.{digest_stays, none_named}
use Rattle.area_recovery.specs.DigestedLogs.{HaveRecords, NamesBad}
use Rattle.area_recovery.proofs.Changing.{still_stays}
use Rattle.area_recovery.proofs.UndigestibleRecords.{first_named}
use Rattle.area_recovery.proofs.record_digest.digest_next.Goals as goal

pub returns-clause-any_moment : goal.returns-clause-any_moment
returns-clause-any_moment g c =
    digest_stays g.M.Media g.met.M.Media.seen_now c.args.area.now c.digest_chunk.new.area (c.left_now.ensures.same c.requires.going) c.moved_mark_leaves_the_rest.ensures c.args.log.now c.in_ok-chunk.chunk.count c.invariant.ensures.client c.requires.some
    c.marks.result (c.marks.ensures c.requires.going) c.marks_can_be_written.ensures (c.digest_chunk.ensures.any_moment c.requires.going)

pub returns-clause-digested : goal.returns-clause-digested
returns-clause-digested g c =
    let e = c.digest_chunk.ensures in
    three_ok c.digest_chunk.result e.digested e.done e.at_mark
    (λ d done at. next_digested g.M.Media c.args.log.now c.in_ok-chunk.chunk.count c.args.area.now c.digest_chunk.new.sealed c.digest_chunk.new.area c.invariant.ensures.client c.requires.some e.digests.geometry d done at)

pub returns-clause-never : goal.returns-clause-never
returns-clause-never g c =
    let x = c.args.log.now in
    let old = c.args.area.now in
    let at = c.requires.at_mark in
    each_err (NamesFirstBad old.geometry (disk g.M.Media old) x c.in_ok-chunk.chunk.count) _ c.digest_chunk.result c.digest_chunk.ensures.bad
    (λ e bad every sizes regions state has r. none_named g.M.Media g.met.M.Media.seen_now old old (c.left_now.ensures.same c.requires.going) x c.in_ok-chunk.chunk.count e at.0 c.invariant.ensures.client c.requires.some c.invariant.ensures.spelled at.1 at.2 bad every sizes regions state has r)

pub returns-in_err-chunk-clause-any_moment : goal.returns-in_err-chunk-clause-any_moment
returns-in_err-chunk-clause-any_moment g c = still_stays g.M.Media g.met.M.Media.seen_now c.args.area.now c.args.area.now (c.left_now.ensures.same c.requires.going) (HaveRecords c.args.log.now)

pub returns-in_err-chunk-clause-answers : goal.returns-in_err-chunk-clause-answers
returns-in_err-chunk-clause-answers g c =
    let p = err_from_is_err_and c.from_residual.result c.from_residual.ensures.1 in
    rw (p.1, p.2) (memory_answers g.M.Media c.args.area.now c.in_err-chunk.field-0.0 c.requires.going c.in_err-chunk.ensures.only)

pub returns-clause-bad : goal.returns-clause-bad
returns-clause-bad g c =
    let old = c.args.area.now in
    each_err (NamesFirstBad old.geometry (disk g.M.Media old) c.args.log.now c.in_ok-chunk.chunk.count) _ c.digest_chunk.result c.digest_chunk.ensures.bad
    (λ e bad. first_named old.geometry (disk g.M.Media old) c.args.log.now c.in_ok-chunk.chunk.count e bad)

pub returns-in_err-chunk-clause-bad : goal.returns-in_err-chunk-clause-bad
returns-in_err-chunk-clause-bad g c =
    let p = err_from_is_err_and c.from_residual.result c.from_residual.ensures.1 in
    rw (p.1, p.2) (subst (NamesBad c.args.area.now.geometry (disk g.M.Media c.args.area.now) c.args.log.now) (sym c.in_err-chunk.ensures.only) tt)

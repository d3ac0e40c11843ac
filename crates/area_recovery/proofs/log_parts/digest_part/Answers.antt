use Rattle.std.proofs.Common.{◌<◌, ◌≤◌, length, drop, ap, sym, subst, arith}
use Rattle.std.proofs.lemmas.List.{drop_all, length-drop}
use Rattle.std.proofs.lemmas.Result.{err_from_is_err_and}
use Rattle.recovery_laws.specs.area_reader.Store.{disk, graph}
use Rattle.log_survey.specs.update_log.RecordCounts.{next_generation}
use Rattle.area_recovery.specs.DigestedLogs.{HaveRecords, HoldRecords, CanDigest, NamesRefused}
use Rattle.area_recovery.proofs.Changing.{still_stays}
use Rattle.area_recovery.proofs.ClientParts.{log_all, log_has, log_some, log_stands, log_undone, memory_digest, none_digested, read_memory, stays_for}
use Rattle.area_recovery.proofs.DigestAnswers.{memory_faults, other_value, same_refusal, still_faults}
use Rattle.recovery_laws.specs.digester.SealedLog.{SealedView, undone}
use Rattle.area_recovery.proofs.SettlementPhases.{passed_on}
use Rattle.area_recovery.proofs.UndigestibleRecords.{fault_named, nothing_to_digest}
use Rattle.area_recovery.proofs.log_parts.digest_part.Goals as goal

pub returns-then-left-eq0-clause-any_moment : goal.returns-then-left-eq0-clause-any_moment
returns-then-left-eq0-clause-any_moment g c = still_stays g.M.Media g.met.M.Media.seen_now c.args.area.now c.args.area.now (c.left_now.ensures.same c.requires.going) (HoldRecords c.args.part.client c.args.part.generation c.args.records.items)

pub returns-then-left-eq0-clause-digested : goal.returns-then-left-eq0-clause-digested
returns-then-left-eq0-clause-digested g c =
    let all : length c.args.records.items ≤ c.args.part.from = omega (arith, c.if-left-eq0.true, c.saturating_sub-left.ensures, c.len.ensures) in
    none_digested g.M.Media c.args.part.client (record { generation = next_generation c.args.part.generation; done = 0 }) (drop c.args.part.from c.args.records.items) c.args.area.now (drop_all c.args.part.from c.args.records.items all)

pub returns-then-left-eq0-clause-answers : goal.returns-then-left-eq0-clause-answers
returns-then-left-eq0-clause-answers g c = still_faults g.M.Media c.args.area.now c.requires.going 0

pub resume_log-requires-clause-client : goal.resume_log-requires-clause-client
resume_log-requires-clause-client g c = c.requires.client

pub resume_log-requires-clause-spelled : goal.resume_log-requires-clause-spelled
resume_log-requires-clause-spelled g c = c.requires.spelled

pub resume_log-requires-clause-few : goal.resume_log-requires-clause-few
resume_log-requires-clause-few g c = c.requires.few

pub resume_log-requires-clause-within : goal.resume_log-requires-clause-within
resume_log-requires-clause-within g c = omega (arith, c.if-left-eq0.false, c.saturating_sub-left.ensures, c.len.ensures)

pub returns-in_err-log-clause-any_moment : goal.returns-in_err-log-clause-any_moment
returns-in_err-log-clause-any_moment g c = still_stays g.M.Media g.met.M.Media.seen_now c.args.area.now c.args.area.now (c.left_now.ensures.same c.requires.going) (HoldRecords c.args.part.client c.args.part.generation c.args.records.items)

pub returns-in_err-log-clause-digested : goal.returns-in_err-log-clause-digested
returns-in_err-log-clause-digested g c =
    let p = err_from_is_err_and c.from_residual.result c.from_residual.ensures.1 in
    rw p.1 tt

pub returns-in_err-log-clause-never : goal.returns-in_err-log-clause-never
returns-in_err-log-clause-never g c =
    let p = err_from_is_err_and c.from_residual.result c.from_residual.ensures.1 in
    rw (p.1, p.2) (λ sizes regions state has r. read_memory c.in_err-log.field-0.0 c.in_err-log.ensures.only)

pub returns-in_err-log-clause-only : goal.returns-in_err-log-clause-only
returns-in_err-log-clause-only g c =
    let p = err_from_is_err_and c.from_residual.result c.from_residual.ensures.1 in
    rw (p.1, p.2) (memory_digest c.in_err-log.field-0.0 (read_memory c.in_err-log.field-0.0 c.in_err-log.ensures.only))

pub returns-in_err-log-clause-answers : goal.returns-in_err-log-clause-answers
returns-in_err-log-clause-answers g c =
    let p = err_from_is_err_and c.from_residual.result c.from_residual.ensures.1 in
    rw (p.1, p.2) (memory_faults g.M.Media c.args.area.now c.requires.going c.in_err-log.field-0.0 c.in_err-log.ensures.only)

pub digest_records-requires-clause-some : goal.digest_records-requires-clause-some
digest_records-requires-clause-some g c =
    let low : c.args.part.from < length c.args.records.items = omega (arith, c.if-left-eq0.false, c.saturating_sub-left.ensures, c.len.ensures) in
    log_some c.args.part.client c.args.part.generation c.args.part.from c.args.records.items c.in_ok-log.log c.in_ok-log.ensures.log low

pub digest_records-requires-clause-every : goal.digest_records-requires-clause-every
digest_records-requires-clause-every g c = c.in_ok-log.ensures.log.every

pub digest_records-requires-clause-going : goal.digest_records-requires-clause-going
digest_records-requires-clause-going g c = c.requires.going

pub digest_records-requires-clause-at_mark : goal.digest_records-requires-clause-at_mark
digest_records-requires-clause-at_mark g c =
    let low : c.args.part.from < length c.args.records.items = omega (arith, c.if-left-eq0.false, c.saturating_sub-left.ensures, c.len.ensures) in
    let are = c.marks-marks.ensures c.requires.going in
    log_stands c.args.part.client c.args.part.generation c.args.part.from c.args.records.items c.in_ok-log.log c.in_ok-log.ensures.log c.marks-marks.result (disk g.M.Media c.args.area.now) are low (c.requires.at_mark low c.marks-marks.result are)

pub returns-in_err-digest_records-clause-any_moment : goal.returns-in_err-digest_records-clause-any_moment
returns-in_err-digest_records-clause-any_moment g c =
    stays_for g.M.Media (HoldRecords c.args.part.client c.args.part.generation c.args.records.items) (HaveRecords c.in_ok-log.log) c.args.area.now.media c.digest_records.new.area.media
    (λ now has. log_has c.args.part.client c.args.part.generation c.args.part.from c.args.records.items c.in_ok-log.log c.in_ok-log.ensures.log now has) c.in_err-digest_records.ensures.any_moment

pub returns-in_err-digest_records-clause-digested : goal.returns-in_err-digest_records-clause-digested
returns-in_err-digest_records-clause-digested g c =
    let p = err_from_is_err_and c.from_residual-in_err-digest_records.result c.from_residual-in_err-digest_records.ensures.1 in
    rw p.1 tt

pub returns-in_err-digest_records-clause-never : goal.returns-in_err-digest_records-clause-never
returns-in_err-digest_records-clause-never g c =
    let p = err_from_is_err_and c.from_residual-in_err-digest_records.result c.from_residual-in_err-digest_records.ensures.1 in
    rw (p.1, p.2) (λ sizes now state has r. c.in_err-digest_records.ensures.never sizes now state (log_has c.args.part.client c.args.part.generation c.args.part.from c.args.records.items c.in_ok-log.log c.in_ok-log.ensures.log now has) r)

pub returns-in_err-digest_records-clause-only : goal.returns-in_err-digest_records-clause-only
returns-in_err-digest_records-clause-only g c =
    let p = err_from_is_err_and c.from_residual-in_err-digest_records.result c.from_residual-in_err-digest_records.ensures.1 in
    rw (p.1, p.2) c.in_err-digest_records.ensures.only

pub returns-in_err-digest_records-clause-answers : goal.returns-in_err-digest_records-clause-answers
returns-in_err-digest_records-clause-answers g c =
    let p = err_from_is_err_and c.from_residual-in_err-digest_records.result c.from_residual-in_err-digest_records.ensures.1 in
    rw (p.1, p.2) (same_refusal g.M.Media c.args.area.now c.digest_records.new.area c.in_err-digest_records.field-0.0 c.in_err-digest_records.ensures.answers)

pub returns-clause-any_moment : goal.returns-clause-any_moment
returns-clause-any_moment g c =
    stays_for g.M.Media (HoldRecords c.args.part.client c.args.part.generation c.args.records.items) (HaveRecords c.in_ok-log.log) c.args.area.now.media c.digest_records.new.area.media
    (λ now has. log_has c.args.part.client c.args.part.generation c.args.part.from c.args.records.items c.in_ok-log.log c.in_ok-log.ensures.log now has) c.in_ok-digest_records.ensures.any_moment

pub returns-clause-digested : goal.returns-clause-digested
returns-clause-digested g c =
    log_all c.args.part.client c.args.part.generation c.args.part.from c.args.records.items c.in_ok-log.log c.in_ok-log.ensures.log g.M.Media c.args.area.now c.digest_records.new.area c.in_ok-digest_records.ensures.digested

pub returns-clause-answers : goal.returns-clause-answers
returns-clause-answers g c = other_value g.M.Media c.args.area.now c.digest_records.new.area tt c.saturating_sub-left.result c.in_ok-digest_records.ensures.answers

pub returns-then-left-eq0-clause-good : goal.returns-then-left-eq0-clause-good
returns-then-left-eq0-clause-good g c =
    let all : length c.args.records.items ≤ c.args.part.from = omega (arith, c.if-left-eq0.true, c.saturating_sub-left.ensures, c.len.ensures) in
    let old = c.args.area.now in
    nothing_to_digest old.geometry.units (graph old.geometry (disk g.M.Media old)) (drop c.args.part.from c.args.records.items) (drop_all c.args.part.from c.args.records.items all)

pub returns-then-left-eq0-clause-count : goal.returns-then-left-eq0-clause-count
returns-then-left-eq0-clause-count g c =
    let all : length c.args.records.items ≤ c.args.part.from = omega (arith, c.if-left-eq0.true, c.saturating_sub-left.ensures, c.len.ensures) in
    sym (ap length (drop_all c.args.part.from c.args.records.items all))

pub returns-in_err-log-clause-good : goal.returns-in_err-log-clause-good
returns-in_err-log-clause-good g c =
    let p = err_from_is_err_and c.from_residual.result c.from_residual.ensures.1 in
    rw p.1 tt

pub returns-in_err-log-clause-count : goal.returns-in_err-log-clause-count
returns-in_err-log-clause-count g c =
    let p = err_from_is_err_and c.from_residual.result c.from_residual.ensures.1 in
    rw p.1 tt

pub returns-in_err-log-clause-bad : goal.returns-in_err-log-clause-bad
returns-in_err-log-clause-bad g c =
    let old = c.args.area.now in
    passed_on c.from_residual.result _ _ c.from_residual.ensures.1
    (fault_named c.args.part.client c.args.part.before old.geometry.units (graph old.geometry (disk g.M.Media old)) (drop c.args.part.from c.args.records.items) c.in_err-log.field-0.0 (read_memory c.in_err-log.field-0.0 c.in_err-log.ensures.only))

pub returns-in_err-digest_records-clause-good : goal.returns-in_err-digest_records-clause-good
returns-in_err-digest_records-clause-good g c =
    let p = err_from_is_err_and c.from_residual-in_err-digest_records.result c.from_residual-in_err-digest_records.ensures.1 in
    rw p.1 tt

pub returns-in_err-digest_records-clause-count : goal.returns-in_err-digest_records-clause-count
returns-in_err-digest_records-clause-count g c =
    let p = err_from_is_err_and c.from_residual-in_err-digest_records.result c.from_residual-in_err-digest_records.ensures.1 in
    rw p.1 tt

pub returns-in_err-digest_records-clause-bad : goal.returns-in_err-digest_records-clause-bad
returns-in_err-digest_records-clause-bad g c =
    let old = c.args.area.now in
    let part = c.args.part in
    passed_on c.from_residual-in_err-digest_records.result _ _ c.from_residual-in_err-digest_records.ensures.1
    (subst (λ (z : SealedView). NamesRefused z.client part.before old.geometry.units (graph old.geometry (disk g.M.Media old)) (undone z) c.in_err-digest_records.field-0.0) c.in_ok-log.ensures.log.is c.in_err-digest_records.ensures.bad)

pub returns-clause-good : goal.returns-clause-good
returns-clause-good g c =
    let old = c.args.area.now in
    subst (CanDigest old.geometry.units (graph old.geometry (disk g.M.Media old))) (log_undone c.args.part.client c.args.part.generation c.args.part.from c.args.records.items c.in_ok-log.log c.in_ok-log.ensures.log) c.in_ok-digest_records.ensures.good

pub returns-clause-count : goal.returns-clause-count
returns-clause-count g c = omega (arith, c.saturating_sub-left.ensures, c.len.ensures, length-drop c.args.part.from c.args.records.items)

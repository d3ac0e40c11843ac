use Rattle.std.proofs.Common.{◌≡◌, ◌≢◌, ℕ, [], drop, Option, Some, ap, sym, ◌∙◌, subst, arith}
use Rattle.std.proofs.lemmas.Bool.{eqb-true}
use Rattle.std.proofs.lemmas.List.{nil_from_length}
use Rattle.std.proofs.lemmas.Result.{err_from_is_err_and}
use Rattle.recovery_laws.specs.digester.MarkMoves.{mark_of}
use Rattle.recovery_laws.specs.area_reader.Store.{disk, graph, marks}
use Rattle.recovery_laws.specs.layout.declared.marks.Mark.{Mark}
use Rattle.recovery_laws.specs.layout.declared.marks.Marks.{Marks}
use Rattle.log_survey.specs.update_log.RecordCounts.{next_generation}
use Rattle.area_recovery.specs.DigestedLogs.{CanDigest, DigestsAll, HoldRecords, NamesRefused}
use Rattle.area_recovery.specs.Recovers.{AreThese}
use Rattle.area_recovery.proofs.Changing.{answers_on, still_stays}
use Rattle.area_recovery.proofs.ClientParts.{memory_digest, moved_before, none_digested}
use Rattle.area_recovery.proofs.DigestAnswers.{each_err, each_ok, same_refusal, still_faults}
use Rattle.area_recovery.proofs.Staying.{recovered_now, stays_on}
use Rattle.recovery_laws.specs.layout.Places.{Sizes}
use Rattle.graph_check.specs.file_graph.Graph.{Graph}
use Rattle.area_recovery.proofs.SettlementPhases.{passed_on}
use Rattle.area_recovery.proofs.UndigestibleRecords.{fault_named, nothing_to_digest}
use Rattle.area_recovery.proofs.log_parts.digest_next_part.Goals as goal

one_of : (o : Option Marks) (a b : Marks) → o ≡ Some a → o ≡ Some b → a ≡ b
one_of o a b one two = cc

pub returns-then-is_empty-clause-any_moment : goal.returns-then-is_empty-clause-any_moment
returns-then-is_empty-clause-any_moment g c = λ these holds start. still_stays g.M.Media g.met.M.Media.seen_now c.args.area.now c.args.area.now (c.left_now.ensures.same c.requires.going) (AreThese these)

pub returns-then-is_empty-clause-digested : goal.returns-then-is_empty-clause-digested
returns-then-is_empty-clause-digested g c =
    let zero_long : c.args.records.len ≡ 0 = eqb-true c.args.records.len 0 (sym c.is_empty.ensures ∙ c.if-is_empty.true) in
    let none : c.args.records.items ≡ [] = nil_from_length c.args.records.items (omega (arith, zero_long, c.args.records.ok.0)) in
    none_digested g.M.Media c.args.part.client (record { generation = next_generation c.args.part.generation; done = 0 }) c.args.records.items c.args.area.now none

pub returns-then-is_empty-clause-answers : goal.returns-then-is_empty-clause-answers
returns-then-is_empty-clause-answers g c = still_faults g.M.Media c.args.area.now c.requires.going 0

pub move_mark-requires-clause-client : goal.move_mark-requires-clause-client
move_mark-requires-clause-client g c = c.requires.client

pub move_mark-requires-clause-going : goal.move_mark-requires-clause-going
move_mark-requires-clause-going g c = c.requires.going

pub returns-in_err-move_mark-clause-any_moment : goal.returns-in_err-move_mark-clause-any_moment
returns-in_err-move_mark-clause-any_moment g c =
    let some : c.args.records.items ≢ [] = λ none. grind (arith, none, c.is_empty.ensures, c.if-is_empty.false) in
    λ these holds start. c.in_err-move_mark.ensures.any_moment these (start some)

pub returns-in_err-move_mark-clause-digested : goal.returns-in_err-move_mark-clause-digested
returns-in_err-move_mark-clause-digested g c =
    let p = err_from_is_err_and c.from_residual.result c.from_residual.ensures.1 in
    rw p.1 tt

pub returns-in_err-move_mark-clause-never : goal.returns-in_err-move_mark-clause-never
returns-in_err-move_mark-clause-never g c =
    let p = err_from_is_err_and c.from_residual.result c.from_residual.ensures.1 in
    rw (p.1, p.2) (λ these holds start sizes now state same r. c.in_err-move_mark.ensures.only)

pub returns-in_err-move_mark-clause-only : goal.returns-in_err-move_mark-clause-only
returns-in_err-move_mark-clause-only g c =
    let p = err_from_is_err_and c.from_residual.result c.from_residual.ensures.1 in
    rw (p.1, p.2) (memory_digest c.in_err-move_mark.field-0.0 c.in_err-move_mark.ensures.only)

pub returns-in_err-move_mark-clause-answers : goal.returns-in_err-move_mark-clause-answers
returns-in_err-move_mark-clause-answers g c =
    let p = err_from_is_err_and c.from_residual.result c.from_residual.ensures.1 in
    rw (p.1, p.2) (same_refusal g.M.Media c.args.area.now c.move_mark.new.area c.in_err-move_mark.field-0.0 c.in_err-move_mark.ensures.answers)

pub digest_part-requires-clause-client : goal.digest_part-requires-clause-client
digest_part-requires-clause-client g c = c.requires.client

pub digest_part-requires-clause-going : goal.digest_part-requires-clause-going
digest_part-requires-clause-going g c = c.in_ok-move_mark.ensures.answers.quiet.1

pub digest_part-requires-clause-spelled : goal.digest_part-requires-clause-spelled
digest_part-requires-clause-spelled g c = c.requires.spelled

pub digest_part-requires-clause-few : goal.digest_part-requires-clause-few
digest_part-requires-clause-few g c = c.requires.few

pub digest_part-requires-clause-at_mark : goal.digest_part-requires-clause-at_mark
digest_part-requires-clause-at_mark g c =
    let moves = c.in_ok-move_mark.ensures.moves in
    λ low v are. ap (λ (u : Marks). mark_of u c.args.part.client) (one_of (marks (disk g.M.Media c.move_mark.new.area)) v moves.after are moves.is)
    ∙ moves.own
    ∙ sym (ap (λ (k : ℕ). record { generation = c.args.part.generation; done = k }) c.requires.all)

pub returns-clause-any_moment : goal.returns-clause-any_moment
returns-clause-any_moment g c =
    let some : c.args.records.items ≢ [] = λ none. grind (arith, none, c.is_empty.ensures, c.if-is_empty.false) in
    λ these holds start. stays_on g.M.Media g.met.M.Media.seen_now (AreThese these) (HoldRecords c.args.part.client c.args.part.generation c.args.records.items) c.args.area.now.media c.move_mark.new.area.media c.digest_part.new.area.media
    (λ now same. holds now same) (c.in_ok-move_mark.ensures.any_moment these (start some)) c.digest_part.ensures.any_moment

pub returns-clause-digested : goal.returns-clause-digested
returns-clause-digested g c =
    let m = g.M.Media in
    let items = c.args.records.items in
    let client = c.args.part.client in
    let mark : Mark = record { generation = next_generation c.args.part.generation; done = 0 } in
    let some : c.args.records.items ≢ [] = λ none. grind (arith, none, c.is_empty.ensures, c.if-is_empty.false) in
    each_ok c.digest_part.result c.digest_part.ensures.digested (λ all. moved_before m client (record { generation = c.args.part.generation; done = 0 }) mark items c.args.area.now c.move_mark.new.area c.digest_part.new.area
    c.in_ok-move_mark.ensures.graph c.in_ok-move_mark.ensures.moves some (subst (λ (k : ℕ). DigestsAll m client mark (drop k items) c.move_mark.new.area c.digest_part.new.area) c.requires.all all))

pub returns-clause-never : goal.returns-clause-never
returns-clause-never g c =
    let some : c.args.records.items ≢ [] = λ none. grind (arith, none, c.is_empty.ensures, c.if-is_empty.false) in
    each_err _ _ c.digest_part.result c.digest_part.ensures.never (λ e never these holds start sizes now state same r. never sizes now state (holds now same)
    (recovered_now g.M.Media g.met.M.Media.seen_now (AreThese these) c.args.area.now.media c.move_mark.new.area.media (c.in_ok-move_mark.ensures.any_moment these (start some)) sizes now state same r))

pub returns-clause-only : goal.returns-clause-only
returns-clause-only g c = c.digest_part.ensures.only

pub returns-clause-answers : goal.returns-clause-answers
returns-clause-answers g c =
    let a = c.in_ok-move_mark.ensures.answers in
    answers_on g.M.Media c.args.area.now c.move_mark.new.area c.digest_part.new.area c.digest_part.result a.geometry a.quiet.0 c.digest_part.ensures.answers

pub returns-then-is_empty-clause-good : goal.returns-then-is_empty-clause-good
returns-then-is_empty-clause-good g c =
    let zero_long : c.args.records.len ≡ 0 = eqb-true c.args.records.len 0 (sym c.is_empty.ensures ∙ c.if-is_empty.true) in
    let none : c.args.records.items ≡ [] = nil_from_length c.args.records.items (omega (arith, zero_long, c.args.records.ok.0)) in
    let old = c.args.area.now in
    nothing_to_digest old.geometry.units (graph old.geometry (disk g.M.Media old)) c.args.records.items none

pub returns-in_err-move_mark-clause-good : goal.returns-in_err-move_mark-clause-good
returns-in_err-move_mark-clause-good g c =
    let p = err_from_is_err_and c.from_residual.result c.from_residual.ensures.1 in
    rw p.1 tt

pub returns-in_err-move_mark-clause-bad : goal.returns-in_err-move_mark-clause-bad
returns-in_err-move_mark-clause-bad g c =
    let old = c.args.area.now in
    passed_on c.from_residual.result _ _ c.from_residual.ensures.1
    (fault_named c.args.part.client c.args.part.before old.geometry.units (graph old.geometry (disk g.M.Media old)) c.args.records.items c.in_err-move_mark.field-0.0 c.in_err-move_mark.ensures.only)

pub returns-clause-good : goal.returns-clause-good
returns-clause-good g c =
    let m = g.M.Media in
    let old = c.args.area.now in
    let mid = c.move_mark.new.area in
    let units : mid.geometry.units ≡ old.geometry.units = ap (λ (z : Sizes). z.units) c.in_ok-move_mark.ensures.answers.geometry in
    each_ok c.digest_part.result c.digest_part.ensures.good (λ good. subst (λ (h : Graph). CanDigest old.geometry.units h c.args.records.items) c.in_ok-move_mark.ensures.graph
    (subst (λ (n : ℕ). CanDigest n (graph mid.geometry (disk m mid)) c.args.records.items) units (subst (λ (k : ℕ). CanDigest mid.geometry.units (graph mid.geometry (disk m mid)) (drop k c.args.records.items)) c.requires.all good)))

pub returns-clause-bad : goal.returns-clause-bad
returns-clause-bad g c =
    let m = g.M.Media in
    let old = c.args.area.now in
    let mid = c.move_mark.new.area in
    let part = c.args.part in
    let units : mid.geometry.units ≡ old.geometry.units = ap (λ (z : Sizes). z.units) c.in_ok-move_mark.ensures.answers.geometry in
    each_err _ _ c.digest_part.result c.digest_part.ensures.bad (λ e bad. subst (λ (h : Graph). NamesRefused part.client part.before old.geometry.units h c.args.records.items e) c.in_ok-move_mark.ensures.graph
    (subst (λ (n : ℕ). NamesRefused part.client part.before n (graph mid.geometry (disk m mid)) c.args.records.items e) units
    (subst (λ (k : ℕ). NamesRefused part.client part.before mid.geometry.units (graph mid.geometry (disk m mid)) (drop k c.args.records.items) e) c.requires.all bad)))

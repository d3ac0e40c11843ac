use Rattle.std.proofs.Common.{◌≡◌, ◌≢◌, ℕ, [], Option, Ok, Err, Some, refl, ap, sym, ◌∙◌, subst}
use Rattle.std.specs.Prelude.{IfSome}
use Rattle.std.proofs.lemmas.List.Elements.{length_all_zip}
use Rattle.std.proofs.lemmas.Result.{err_from_is_err_and}
use Rattle.log_survey.specs.Regions.{records_behind, records_of}
use Rattle.recovery_laws.specs.digester.MarkMoves.{mark_of}
use Rattle.recovery_laws.specs.area_reader.Store.{disk, graph, marks}
use Rattle.recovery_laws.specs.layout.declared.marks.Mark.{Mark}
use Rattle.recovery_laws.specs.layout.declared.marks.Marks.{Marks}
use Rattle.log_survey.specs.update_log.RecordCounts.{next_generation}
use Rattle.area_recovery.specs.DigestedLogs.{CanDigest, DigestsAll, NamesRefused, StandsAtStart}
use Rattle.area_recovery.specs.FoundLogs.{HasGeneration, HoldsFew, log_by}
use Rattle.area_recovery.specs.Recovers.{AreThese, Regions}
use Rattle.area_recovery.specs.Regions.{IsOnlyRead, regions_read}
use Rattle.area_recovery.proofs.FoundParts.{at_second, log_digested, region_few, rest_few}
use Rattle.area_recovery.proofs.ReadRegions.{all_read_on, either_on, idle_still, other_answer, regions_still, same_denial}
use Rattle.area_recovery.proofs.Staying.{recovered_now, stays_on}
use Rattle.recovery_laws.specs.layout.Places.{Sizes}
use Rattle.graph_check.specs.file_graph.Graph.{Graph}
use Rattle.area_recovery.proofs.SettlementPhases.{passed_on}
use Rattle.area_recovery.proofs.UndigestibleRecords.{behind_named, front_named, parts_digest}
use Rattle.area_recovery.proofs.log_digest.digest_log.Goals as goal

one_of : (o : Option Marks) (a b : Marks) → o ≡ Some a → o ≡ Some b → a ≡ b
one_of o a b one two = cc

pub mark_of-generation-requires : goal.mark_of-generation-requires
mark_of-generation-requires g c = c.requires.client

pub digest_first-requires-clause-client : goal.digest_first-requires-clause-client
digest_first-requires-clause-client g c = c.requires.client

pub digest_first-requires-clause-going : goal.digest_first-requires-clause-going
digest_first-requires-clause-going g c = c.requires.going

pub digest_first-requires-clause-all : goal.digest_first-requires-clause-all
digest_first-requires-clause-all g c = c.requires.all

pub digest_first-requires-clause-idle : goal.digest_first-requires-clause-idle
digest_first-requires-clause-idle g c = c.requires.idle

pub digest_first-requires-clause-found : goal.digest_first-requires-clause-found
digest_first-requires-clause-found g c = λ v are. (c.requires.found v are).first

pub returns-in_err-before-clause-any_moment : goal.returns-in_err-before-clause-any_moment
returns-in_err-before-clause-any_moment g c = c.in_err-before.ensures.any_moment

pub returns-in_err-before-clause-same : goal.returns-in_err-before-clause-same
returns-in_err-before-clause-same g c = c.in_err-before.ensures.same

pub returns-in_err-before-clause-digested : goal.returns-in_err-before-clause-digested
returns-in_err-before-clause-digested g c =
    let p = err_from_is_err_and c.from_residual.result c.from_residual.ensures.1 in
    rw p.1 tt

pub returns-in_err-before-clause-never : goal.returns-in_err-before-clause-never
returns-in_err-before-clause-never g c =
    let p = err_from_is_err_and c.from_residual.result c.from_residual.ensures.1 in
    rw (p.1, p.2) c.in_err-before.ensures.never

pub returns-in_err-before-clause-only : goal.returns-in_err-before-clause-only
returns-in_err-before-clause-only g c =
    let p = err_from_is_err_and c.from_residual.result c.from_residual.ensures.1 in
    rw (p.1, p.2) c.in_err-before.ensures.only

pub returns-in_err-before-clause-answers : goal.returns-in_err-before-clause-answers
returns-in_err-before-clause-answers g c =
    let p = err_from_is_err_and c.from_residual.result c.from_residual.ensures.1 in
    rw (p.1, p.2) (same_denial g.M.Media c.in_err-before.field-0.0 c.args.area.now c.digest_first.new.area c.args.regions.now c.digest_first.new.regions c.in_err-before.ensures.answers)

pub digest_second-requires-clause-client : goal.digest_second-requires-clause-client
digest_second-requires-clause-client g c = c.requires.client

pub digest_second-requires-clause-from : goal.digest_second-requires-clause-from
digest_second-requires-clause-from g c = refl

pub digest_second-requires-clause-going : goal.digest_second-requires-clause-going
digest_second-requires-clause-going g c = c.in_ok-before.ensures.answers.quiet

pub digest_second-requires-clause-all : goal.digest_second-requires-clause-all
digest_second-requires-clause-all g c = sym (length_all_zip (IsOnlyRead g.M.Media) c.args.regions.now c.digest_first.new.regions c.in_ok-before.ensures.same) ∙ c.requires.all

pub digest_second-requires-clause-idle : goal.digest_second-requires-clause-idle
digest_second-requires-clause-idle g c = idle_still g.M.Media c.args.regions.now c.digest_first.new.regions c.in_ok-before.ensures.same c.requires.idle

pub digest_second-requires-clause-found : goal.digest_second-requires-clause-found
digest_second-requires-clause-found g c =
    let m = g.M.Media in
    let client = c.args.client in
    let these = regions_read m c.args.regions.now in
    let still = regions_still m c.args.regions.now c.digest_first.new.regions c.in_ok-before.ensures.same in
    let v = c.marks.result in
    let are = c.marks.ensures c.requires.going in
    let same_gen : c.mark_of-generation.result.generation ≡ (mark_of v client).generation = ap (λ (k : Mark). k.generation) c.mark_of-generation.ensures in
    subst (λ (t : Regions). IfSome c.args.log.counted.second (HasGeneration (t client) (next_generation c.mark_of-generation.result.generation))) (sym still)
    (subst (λ (k : ℕ). IfSome c.args.log.counted.second (HasGeneration (these client) (next_generation k))) (sym same_gen) (c.requires.found v are).second)

pub digest_second-requires-clause-in_turn : goal.digest_second-requires-clause-in_turn
digest_second-requires-clause-in_turn g c =
    let m = g.M.Media in
    let client = c.args.client in
    let these = regions_read m c.args.regions.now in
    let still = regions_still m c.args.regions.now c.digest_first.new.regions c.in_ok-before.ensures.same in
    let v = c.marks.result in
    let are = c.marks.ensures c.requires.going in
    let mid = c.digest_first.new.area in
    let same_gen : c.mark_of-generation.result.generation ≡ (mark_of v client).generation = ap (λ (k : Mark). k.generation) c.mark_of-generation.ensures in
    λ some. subst (λ (t : Regions). StandsAtStart (AreThese t) client (next_generation c.mark_of-generation.result.generation) (m.seen mid.media)) (sym still)
    (subst (λ (k : ℕ). StandsAtStart (AreThese these) client (next_generation k) (m.seen mid.media)) (sym same_gen)
    (at_second m c.moved_mark_leaves_the_rest.ensures client c.requires.client these v c.args.log c.args.area.now mid are (c.requires.found v are) (c.in_ok-before.ensures.digested v are)
    (subst (λ (t : Regions). records_of (t client) c.args.log.counted.second ≢ []) still some)))

pub returns-in_err-digest_second-clause-any_moment : goal.returns-in_err-digest_second-clause-any_moment
returns-in_err-digest_second-clause-any_moment g c =
    let m = g.M.Media in
    let still = regions_still m c.args.regions.now c.digest_first.new.regions c.in_ok-before.ensures.same in
    stays_on m g.met.M.Media.seen_now (AreThese (regions_read m c.args.regions.now)) (AreThese (regions_read m c.digest_first.new.regions)) c.args.area.now.media c.digest_first.new.area.media c.digest_second.new.area.media
    (λ now are. subst (λ (t : Regions). AreThese t now) (sym still) are) c.in_ok-before.ensures.any_moment c.in_err-digest_second.ensures.any_moment

pub returns-in_err-digest_second-clause-same : goal.returns-in_err-digest_second-clause-same
returns-in_err-digest_second-clause-same g c = all_read_on g.M.Media c.args.regions.now c.digest_first.new.regions c.digest_second.new.regions c.in_ok-before.ensures.same c.in_err-digest_second.ensures.same

pub returns-in_err-digest_second-clause-digested : goal.returns-in_err-digest_second-clause-digested
returns-in_err-digest_second-clause-digested g c =
    let p = err_from_is_err_and c.from_residual-in_err-digest_second.result c.from_residual-in_err-digest_second.ensures.1 in
    rw p.1 tt

pub returns-in_err-digest_second-clause-never : goal.returns-in_err-digest_second-clause-never
returns-in_err-digest_second-clause-never g c =
    let m = g.M.Media in
    let still = regions_still m c.args.regions.now c.digest_first.new.regions c.in_ok-before.ensures.same in
    let p = err_from_is_err_and c.from_residual-in_err-digest_second.result c.from_residual-in_err-digest_second.ensures.1 in
    rw (p.1, p.2) (λ sizes now state same r. c.in_err-digest_second.ensures.never sizes now state (subst (λ (t : Regions). AreThese t now) (sym still) same)
    (recovered_now m g.met.M.Media.seen_now (AreThese (regions_read m c.args.regions.now)) c.args.area.now.media c.digest_first.new.area.media c.in_ok-before.ensures.any_moment sizes now state same r))

pub returns-in_err-digest_second-clause-only : goal.returns-in_err-digest_second-clause-only
returns-in_err-digest_second-clause-only g c =
    let p = err_from_is_err_and c.from_residual-in_err-digest_second.result c.from_residual-in_err-digest_second.ensures.1 in
    rw (p.1, p.2) c.in_err-digest_second.ensures.only

pub returns-in_err-digest_second-clause-answers : goal.returns-in_err-digest_second-clause-answers
returns-in_err-digest_second-clause-answers g c =
    let m = g.M.Media in
    let first = c.in_ok-before.ensures in
    let e = c.in_err-digest_second.field-0.0 in
    let p = err_from_is_err_and c.from_residual-in_err-digest_second.result c.from_residual-in_err-digest_second.ensures.1 in
    rw (p.1, p.2) (either_on m (Err e) c.args.area.now c.digest_first.new.area c.digest_second.new.area c.args.regions.now c.digest_first.new.regions c.digest_second.new.regions first.answers.geometry first.answers.more_faults first.same
    (same_denial m e c.digest_first.new.area c.digest_second.new.area c.digest_first.new.regions c.digest_second.new.regions c.in_err-digest_second.ensures.answers))

pub returns-clause-any_moment : goal.returns-clause-any_moment
returns-clause-any_moment g c =
    let m = g.M.Media in
    let still = regions_still m c.args.regions.now c.digest_first.new.regions c.in_ok-before.ensures.same in
    stays_on m g.met.M.Media.seen_now (AreThese (regions_read m c.args.regions.now)) (AreThese (regions_read m c.digest_first.new.regions)) c.args.area.now.media c.digest_first.new.area.media c.digest_second.new.area.media
    (λ now are. subst (λ (t : Regions). AreThese t now) (sym still) are) c.in_ok-before.ensures.any_moment c.in_ok-digest_second.ensures.any_moment

pub returns-clause-same : goal.returns-clause-same
returns-clause-same g c = all_read_on g.M.Media c.args.regions.now c.digest_first.new.regions c.digest_second.new.regions c.in_ok-before.ensures.same c.in_ok-digest_second.ensures.same

pub returns-clause-digested : goal.returns-clause-digested
returns-clause-digested g c =
    let m = g.M.Media in
    let client = c.args.client in
    let these = regions_read m c.args.regions.now in
    let still = regions_still m c.args.regions.now c.digest_first.new.regions c.in_ok-before.ensures.same in
    let mid = c.digest_first.new.area in
    let new = c.digest_second.new.area in
    let gen = c.mark_of-generation.result.generation in
    λ v are.
    let same_gen : gen ≡ (mark_of v client).generation = ap (λ (k : Mark). k.generation) c.mark_of-generation.ensures ∙ ap (λ (u : Marks). (mark_of u client).generation) (one_of (marks (disk m c.args.area.now)) c.marks.result v (c.marks.ensures c.requires.going) are) in
    log_digested m c.moved_mark_leaves_the_rest.ensures client c.requires.client these v c.args.log c.args.area.now mid are (c.requires.found v are) (c.in_ok-before.ensures.digested v are) new
    (subst (λ (k : ℕ). DigestsAll m client (record { generation = next_generation (next_generation k); done = 0 }) (records_of (these client) c.args.log.counted.second) mid new) same_gen
    (subst (λ (t : Regions). DigestsAll m client (record { generation = next_generation (next_generation gen); done = 0 }) (records_of (t client) c.args.log.counted.second) mid new) still c.in_ok-digest_second.ensures.digested))

pub returns-clause-answers : goal.returns-clause-answers
returns-clause-answers g c =
    let m = g.M.Media in
    let first = c.in_ok-before.ensures in
    either_on m (Ok tt) c.args.area.now c.digest_first.new.area c.digest_second.new.area c.args.regions.now c.digest_first.new.regions c.digest_second.new.regions first.answers.geometry first.answers.more_faults first.same
    (other_answer m c.in_ok-digest_second.field-0 tt c.digest_first.new.area c.digest_second.new.area c.digest_first.new.regions c.digest_second.new.regions c.in_ok-digest_second.ensures.answers)

pub returns-in_err-before-clause-good : goal.returns-in_err-before-clause-good
returns-in_err-before-clause-good g c =
    let p = err_from_is_err_and c.from_residual.result c.from_residual.ensures.1 in
    rw p.1 tt

pub returns-in_err-before-clause-bad : goal.returns-in_err-before-clause-bad
returns-in_err-before-clause-bad g c =
    let m = g.M.Media in
    let client = c.args.client in
    let these = regions_read m c.args.regions.now in
    let old = c.args.area.now in
    let u = old.geometry.units in
    let h = graph old.geometry (disk m old) in
    let xs = records_behind (these client) c.args.log.counted.first in
    let ys = records_of (these client) c.args.log.counted.second in
    passed_on c.from_residual.result _ _ c.from_residual.ensures.1 (λ v are few.
    let found = c.requires.found v are in
    front_named client u h xs ys (log_by v these client) found.counted (rest_few (these client) few (mark_of v client).generation (mark_of v client).done c.args.log.counted.first found.first) c.in_err-before.field-0.0 (c.in_err-before.ensures.bad few))

pub returns-in_err-digest_second-clause-good : goal.returns-in_err-digest_second-clause-good
returns-in_err-digest_second-clause-good g c =
    let p = err_from_is_err_and c.from_residual-in_err-digest_second.result c.from_residual-in_err-digest_second.ensures.1 in
    rw p.1 tt

pub returns-in_err-digest_second-clause-bad : goal.returns-in_err-digest_second-clause-bad
returns-in_err-digest_second-clause-bad g c =
    let m = g.M.Media in
    let client = c.args.client in
    let these = regions_read m c.args.regions.now in
    let old = c.args.area.now in
    let u = old.geometry.units in
    let h = graph old.geometry (disk m old) in
    let xs = records_behind (these client) c.args.log.counted.first in
    let ys = records_of (these client) c.args.log.counted.second in
    let mid = c.digest_first.new.area in
    let still = regions_still m c.args.regions.now c.digest_first.new.regions c.in_ok-before.ensures.same in
    let units : mid.geometry.units ≡ u = ap (λ (z : Sizes). z.units) c.in_ok-before.ensures.answers.geometry in
    let e = c.in_err-digest_second.field-0.0 in
    passed_on c.from_residual-in_err-digest_second.result _ _ c.from_residual-in_err-digest_second.ensures.1 (λ v are few.
    let found = c.requires.found v are in
    let first = c.in_ok-before.ensures.digested v are in
    behind_named client u h xs ys (log_by v these client) found.counted c.in_ok-before.before c.in_ok-before.ensures.count
    (rest_few (these client) few (mark_of v client).generation (mark_of v client).done c.args.log.counted.first found.first)
    (region_few (these client) few (next_generation (mark_of v client).generation) c.args.log.counted.second found.second)
    c.in_ok-before.ensures.good e
    (subst (λ (k : Graph). NamesRefused client c.in_ok-before.before u k ys e) first.graph_after
    (subst (λ (n : ℕ). NamesRefused client c.in_ok-before.before n (graph mid.geometry (disk m mid)) ys e) units
    (subst (λ (t : Regions). HoldsFew (t client) → NamesRefused client c.in_ok-before.before mid.geometry.units (graph mid.geometry (disk m mid)) (records_of (t client) c.args.log.counted.second) e) still c.in_err-digest_second.ensures.bad few))))

pub returns-clause-good : goal.returns-clause-good
returns-clause-good g c =
    let m = g.M.Media in
    let client = c.args.client in
    let these = regions_read m c.args.regions.now in
    let old = c.args.area.now in
    let u = old.geometry.units in
    let h = graph old.geometry (disk m old) in
    let xs = records_behind (these client) c.args.log.counted.first in
    let ys = records_of (these client) c.args.log.counted.second in
    let mid = c.digest_first.new.area in
    let still = regions_still m c.args.regions.now c.digest_first.new.regions c.in_ok-before.ensures.same in
    let units : mid.geometry.units ≡ u = ap (λ (z : Sizes). z.units) c.in_ok-before.ensures.answers.geometry in
    λ v are.
    let found = c.requires.found v are in
    let first = c.in_ok-before.ensures.digested v are in
    parts_digest client u h xs ys (log_by v these client) found.counted c.in_ok-before.ensures.good
    (subst (λ (k : Graph). CanDigest u k ys) first.graph_after
    (subst (λ (n : ℕ). CanDigest n (graph mid.geometry (disk m mid)) ys) units
    (subst (λ (t : Regions). CanDigest mid.geometry.units (graph mid.geometry (disk m mid)) (records_of (t client) c.args.log.counted.second)) still c.in_ok-digest_second.ensures.good)))

use Rattle.std.proofs.Common.{◌≡◌, ℕ, List, drop, length, Option, Some, ap, sym, ◌∙◌, subst, arith}
use Rattle.std.proofs.lemmas.Result.{err_from_is_err_and}
use Rattle.log_survey.specs.Regions.{records_behind}
use Rattle.recovery_laws.specs.digester.MarkMoves.{mark_of}
use Rattle.recovery_laws.specs.area_reader.Store.{disk, graph, marks}
use Rattle.recovery_laws.specs.layout.declared.marks.Mark.{Mark}
use Rattle.recovery_laws.specs.layout.declared.marks.Marks.{Marks}
use Rattle.log_survey.specs.update_log.Frames.{records}
use Rattle.log_survey.specs.update_log.RecordCounts.{next_generation}
use Rattle.graph_check.specs.log_record.declared.format.Record.{Record}
use Rattle.std.specs.Prelude.{IfSome}
use Rattle.log_survey.specs.declared.regions.LogRest.{LogRest}
use Rattle.area_recovery.specs.FoundLogs.{HasGeneration, IsRestOf}
use Rattle.area_recovery.specs.DigestedLogs.{CanDigest, DigestsAll, HoldRecords, NamesRefused}
use Rattle.area_recovery.specs.Recovers.{AreThese}
use Rattle.area_recovery.specs.Regions.{regions_read}
use Rattle.area_recovery.proofs.Changing.{still_stays}
use Rattle.area_recovery.proofs.ClientParts.{no_rest, none_digested, part_has, read_never, read_only_digest, rest_stands, stays_for}
use Rattle.area_recovery.proofs.DigestAnswers.{each_err, each_ok}
use Rattle.area_recovery.proofs.ReadLogs.{all_only_read}
use Rattle.area_recovery.proofs.ReadRegions.{area_answers, read_answers, still_answers}
use Rattle.area_recovery.proofs.SettlementPhases.{of_ok, passed_on}
use Rattle.area_recovery.proofs.UndigestibleRecords.{nothing_to_digest, read_named}
use Rattle.area_recovery.proofs.log_parts.digest_first.Goals as goal

one_of : (o : Option Marks) (a b : Marks) → o ≡ Some a → o ≡ Some b → a ≡ b
one_of o a b one two = cc

pub returns-in_default-clause-any_moment : goal.returns-in_default-clause-any_moment
returns-in_default-clause-any_moment g c = still_stays g.M.Media g.met.M.Media.seen_now c.args.area.now c.args.area.now (c.left_now.ensures.same c.requires.going) (AreThese (regions_read g.M.Media c.args.regions.now))

pub returns-in_default-clause-same : goal.returns-in_default-clause-same
returns-in_default-clause-same g c = all_only_read g.M.Media c.args.regions.now

pub returns-in_default-clause-digested : goal.returns-in_default-clause-digested
returns-in_default-clause-digested g c = λ v are. none_digested g.M.Media c.args.client (record { generation = next_generation (mark_of v c.args.client).generation; done = 0 }) (records_behind (regions_read g.M.Media c.args.regions.now c.args.client) c.args.rest) c.args.area.now
    (no_rest (regions_read g.M.Media c.args.regions.now c.args.client) c.args.rest c.in_default.is)

pub returns-in_default-clause-answers : goal.returns-in_default-clause-answers
returns-in_default-clause-answers g c = still_answers g.M.Media 0 c.args.area.now c.args.regions.now c.args.regions.now c.requires.going

pub mark_of-generation-requires : goal.mark_of-generation-requires
mark_of-generation-requires g c = c.requires.client

pub read_region_records-requires-clause-client : goal.read_region_records-requires-clause-client
read_region_records-requires-clause-client g c = c.requires.client

pub read_region_records-requires-clause-region : goal.read_region_records-requires-clause-region
read_region_records-requires-clause-region g c =
    let v = c.marks.result in
    let is = subst (λ (o : Option LogRest). IfSome o (IsRestOf (regions_read g.M.Media c.args.regions.now c.args.client) (mark_of v c.args.client).generation (mark_of v c.args.client).done)) c.in-Some.is (c.requires.found v (c.marks.ensures c.requires.going)) in
    let region = is.region in
    omega (arith, region)

pub read_region_records-requires-clause-all : goal.read_region_records-requires-clause-all
read_region_records-requires-clause-all g c = c.requires.all

pub read_region_records-requires-clause-idle : goal.read_region_records-requires-clause-idle
read_region_records-requires-clause-idle g c = c.requires.idle

pub returns-in_err-records-clause-any_moment : goal.returns-in_err-records-clause-any_moment
returns-in_err-records-clause-any_moment g c = still_stays g.M.Media g.met.M.Media.seen_now c.args.area.now c.args.area.now (c.left_now.ensures.same c.requires.going) (AreThese (regions_read g.M.Media c.args.regions.now))

pub returns-in_err-records-clause-same : goal.returns-in_err-records-clause-same
returns-in_err-records-clause-same g c = c.in_err-records.ensures.same

pub returns-in_err-records-clause-digested : goal.returns-in_err-records-clause-digested
returns-in_err-records-clause-digested g c =
    let p = err_from_is_err_and c.from_residual.result c.from_residual.ensures.1 in
    rw p.1 tt

pub returns-in_err-records-clause-never : goal.returns-in_err-records-clause-never
returns-in_err-records-clause-never g c =
    let p = err_from_is_err_and c.from_residual.result c.from_residual.ensures.1 in
    rw (p.1, p.2) (λ sizes now state same r. read_never c.args.client c.in-Some.rest.region (regions_read g.M.Media c.args.regions.now) c.in_err-records.field-0.0 c.requires.client (omega (arith, (subst (λ (o : Option LogRest). IfSome o (IsRestOf (regions_read g.M.Media c.args.regions.now c.args.client) (mark_of c.marks.result c.args.client).generation (mark_of c.marks.result c.args.client).done)) c.in-Some.is (c.requires.found c.marks.result (c.marks.ensures c.requires.going))).region)) c.in_err-records.ensures.only sizes now state (g.M.Media.seen c.args.area.now.media) same r)

pub returns-in_err-records-clause-only : goal.returns-in_err-records-clause-only
returns-in_err-records-clause-only g c =
    let p = err_from_is_err_and c.from_residual.result c.from_residual.ensures.1 in
    rw (p.1, p.2) (read_only_digest c.args.client (records (regions_read g.M.Media c.args.regions.now c.args.client c.in-Some.rest.region)) c.in_err-records.field-0.0 c.in_err-records.ensures.only)

pub returns-in_err-records-clause-answers : goal.returns-in_err-records-clause-answers
returns-in_err-records-clause-answers g c =
    let p = err_from_is_err_and c.from_residual.result c.from_residual.ensures.1 in
    rw (p.1, p.2) (read_answers g.M.Media c.in_err-records.field-0.0 c.args.area.now c.args.regions.now c.read_region_records.new.regions c.requires.going c.in_err-records.ensures.fault)

pub digest_part-requires-clause-client : goal.digest_part-requires-clause-client
digest_part-requires-clause-client g c = c.requires.client

pub digest_part-requires-clause-going : goal.digest_part-requires-clause-going
digest_part-requires-clause-going g c = c.requires.going

pub digest_part-requires-clause-spelled : goal.digest_part-requires-clause-spelled
digest_part-requires-clause-spelled g c = c.in_ok-records.ensures.spelled

pub digest_part-requires-clause-few : goal.digest_part-requires-clause-few
digest_part-requires-clause-few g c = c.in_ok-records.ensures.few

pub digest_part-requires-clause-at_mark : goal.digest_part-requires-clause-at_mark
digest_part-requires-clause-at_mark g c =
    let m = g.M.Media in
    let these = regions_read m c.args.regions.now in
    let client = c.args.client in
    let rest = c.in-Some.rest in
    let items = c.in_ok-records.records.items in
    let gen = c.mark_of-generation.result.generation in
    λ low v are. rest_stands (these client) (mark_of v client) rest items gen
    (subst (λ (o : Option LogRest). IfSome o (IsRestOf (these client) (mark_of v client).generation (mark_of v client).done)) c.in-Some.is (c.requires.found v are))
    c.in_ok-records.ensures.found low
    (ap (λ (k : Mark). k.generation) c.mark_of-generation.ensures ∙ ap (λ (u : Marks). (mark_of u client).generation) (one_of (marks (disk m c.args.area.now)) c.marks.result v (c.marks.ensures c.requires.going) are))

pub returns-clause-any_moment : goal.returns-clause-any_moment
returns-clause-any_moment g c =
    let m = g.M.Media in
    let these = regions_read m c.args.regions.now in
    let client = c.args.client in
    let v = c.marks.result in
    let are = c.marks.ensures c.requires.going in
    let rest = c.in-Some.rest in
    let items = c.in_ok-records.records.items in
    let gen = c.mark_of-generation.result.generation in
    let read : items ≡ records (these client rest.region) = c.in_ok-records.ensures.found in
    let is : IsRestOf (these client) (mark_of v client).generation (mark_of v client).done rest = subst (λ (o : Option LogRest). IfSome o (IsRestOf (these client) (mark_of v client).generation (mark_of v client).done)) c.in-Some.is (c.requires.found v are) in
    let same_gen : gen ≡ (mark_of v client).generation = ap (λ (k : Mark). k.generation) c.mark_of-generation.ensures in
    let part : HasGeneration (these client) gen rest.region = subst (λ (k : ℕ). HasGeneration (these client) k rest.region) (sym same_gen) (is.region, is.named) in
    stays_for m (AreThese these) (HoldRecords client gen items) c.args.area.now.media c.digest_part.new.area.media (λ now same. part_has these now client gen rest.region items c.requires.client part read same) c.digest_part.ensures.any_moment

pub returns-clause-same : goal.returns-clause-same
returns-clause-same g c = c.in_ok-records.ensures.same

pub returns-clause-digested : goal.returns-clause-digested
returns-clause-digested g c =
    let m = g.M.Media in
    let these = regions_read m c.args.regions.now in
    let client = c.args.client in
    let v = c.marks.result in
    let are = c.marks.ensures c.requires.going in
    let rest = c.in-Some.rest in
    let items = c.in_ok-records.records.items in
    let gen = c.mark_of-generation.result.generation in
    let read : items ≡ records (these client rest.region) = c.in_ok-records.ensures.found in
    let is : IsRestOf (these client) (mark_of v client).generation (mark_of v client).done rest = subst (λ (o : Option LogRest). IfSome o (IsRestOf (these client) (mark_of v client).generation (mark_of v client).done)) c.in-Some.is (c.requires.found v are) in
    let same_gen : gen ≡ (mark_of v client).generation = ap (λ (k : Mark). k.generation) c.mark_of-generation.ensures in
    let part : HasGeneration (these client) gen rest.region = subst (λ (k : ℕ). HasGeneration (these client) k rest.region) (sym same_gen) (is.region, is.named) in
    let behind : drop rest.from items ≡ records_behind (these client) c.args.rest = ap (drop rest.from) read ∙ sym (ap (records_behind (these client)) c.in-Some.is) in
    each_ok c.digest_part.result c.digest_part.ensures.digested (λ all w its.
    let same_w : gen ≡ (mark_of w client).generation = same_gen ∙ ap (λ (u : Marks). (mark_of u client).generation) (one_of (marks (disk m c.args.area.now)) v w are its) in
    subst (λ (k : ℕ). DigestsAll m client (record { generation = next_generation k; done = 0 }) (records_behind (these client) c.args.rest) c.args.area.now c.digest_part.new.area) same_w
    (subst (λ (rs : List Record). DigestsAll m client (record { generation = next_generation gen; done = 0 }) rs c.args.area.now c.digest_part.new.area) behind all))

pub returns-clause-never : goal.returns-clause-never
returns-clause-never g c =
    let m = g.M.Media in
    let these = regions_read m c.args.regions.now in
    let client = c.args.client in
    let v = c.marks.result in
    let are = c.marks.ensures c.requires.going in
    let rest = c.in-Some.rest in
    let items = c.in_ok-records.records.items in
    let gen = c.mark_of-generation.result.generation in
    let read : items ≡ records (these client rest.region) = c.in_ok-records.ensures.found in
    let is : IsRestOf (these client) (mark_of v client).generation (mark_of v client).done rest = subst (λ (o : Option LogRest). IfSome o (IsRestOf (these client) (mark_of v client).generation (mark_of v client).done)) c.in-Some.is (c.requires.found v are) in
    let same_gen : gen ≡ (mark_of v client).generation = ap (λ (k : Mark). k.generation) c.mark_of-generation.ensures in
    let part : HasGeneration (these client) gen rest.region = subst (λ (k : ℕ). HasGeneration (these client) k rest.region) (sym same_gen) (is.region, is.named) in
    each_err _ _ c.digest_part.result c.digest_part.ensures.never (λ e never sizes now state same r. never sizes now state (part_has these now client gen rest.region items c.requires.client part read same) r)

pub returns-clause-only : goal.returns-clause-only
returns-clause-only g c = c.digest_part.ensures.only

pub returns-clause-answers : goal.returns-clause-answers
returns-clause-answers g c = area_answers g.M.Media c.digest_part.result c.args.area.now c.digest_part.new.area c.args.regions.now c.read_region_records.new.regions c.digest_part.ensures.answers

pub returns-in_default-clause-good : goal.returns-in_default-clause-good
returns-in_default-clause-good g c =
    let old = c.args.area.now in
    nothing_to_digest old.geometry.units (graph old.geometry (disk g.M.Media old)) (records_behind (regions_read g.M.Media c.args.regions.now c.args.client) c.args.rest) (no_rest (regions_read g.M.Media c.args.regions.now c.args.client) c.args.rest c.in_default.is)

pub returns-in_default-clause-count : goal.returns-in_default-clause-count
returns-in_default-clause-count g c = sym (ap length (no_rest (regions_read g.M.Media c.args.regions.now c.args.client) c.args.rest c.in_default.is))

pub returns-in_err-records-clause-good : goal.returns-in_err-records-clause-good
returns-in_err-records-clause-good g c =
    let p = err_from_is_err_and c.from_residual.result c.from_residual.ensures.1 in
    rw p.1 tt

pub returns-in_err-records-clause-count : goal.returns-in_err-records-clause-count
returns-in_err-records-clause-count g c =
    let p = err_from_is_err_and c.from_residual.result c.from_residual.ensures.1 in
    rw p.1 tt

pub returns-in_err-records-clause-bad : goal.returns-in_err-records-clause-bad
returns-in_err-records-clause-bad g c =
    let m = g.M.Media in
    let old = c.args.area.now in
    let these = regions_read m c.args.regions.now c.args.client in
    let region = (subst (λ (o : Option LogRest). IfSome o (IsRestOf these (mark_of c.marks.result c.args.client).generation (mark_of c.marks.result c.args.client).done)) c.in-Some.is (c.requires.found c.marks.result (c.marks.ensures c.requires.going))).region in
    passed_on c.from_residual.result _ _ c.from_residual.ensures.1
    (λ few. read_named c.args.client 0 old.geometry.units (graph old.geometry (disk m old)) (records_behind these c.args.rest) (records (these c.in-Some.rest.region)) c.in_err-records.field-0.0 c.in_err-records.ensures.only (few c.in-Some.rest.region (omega (arith, region))))

pub returns-clause-good : goal.returns-clause-good
returns-clause-good g c =
    let m = g.M.Media in
    let old = c.args.area.now in
    let these = regions_read m c.args.regions.now c.args.client in
    let rest = c.in-Some.rest in
    let items = c.in_ok-records.records.items in
    let behind : drop rest.from items ≡ records_behind these c.args.rest = ap (drop rest.from) c.in_ok-records.ensures.found ∙ sym (ap (records_behind these) c.in-Some.is) in
    each_ok c.digest_part.result c.digest_part.ensures.good (λ good. subst (CanDigest old.geometry.units (graph old.geometry (disk m old))) behind good)

pub returns-clause-bad : goal.returns-clause-bad
returns-clause-bad g c =
    let m = g.M.Media in
    let old = c.args.area.now in
    let these = regions_read m c.args.regions.now c.args.client in
    let rest = c.in-Some.rest in
    let items = c.in_ok-records.records.items in
    let behind : drop rest.from items ≡ records_behind these c.args.rest = ap (drop rest.from) c.in_ok-records.ensures.found ∙ sym (ap (records_behind these) c.in-Some.is) in
    each_err _ _ c.digest_part.result c.digest_part.ensures.bad (λ e bad few. subst (λ (rs : List Record). NamesRefused c.args.client 0 old.geometry.units (graph old.geometry (disk m old)) rs e) behind bad)

pub returns-clause-count : goal.returns-clause-count
returns-clause-count g c =
    let these = regions_read g.M.Media c.args.regions.now c.args.client in
    let rest = c.in-Some.rest in
    let items = c.in_ok-records.records.items in
    let behind : drop rest.from items ≡ records_behind these c.args.rest = ap (drop rest.from) c.in_ok-records.ensures.found ∙ sym (ap (records_behind these) c.in-Some.is) in
    of_ok c.digest_part.result _ (λ n is. is ∙ ap length behind) c.digest_part.ensures.count

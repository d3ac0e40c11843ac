use Rattle.std.proofs.Common.{◌≡◌, ◌≢◌, ℕ, List, [], Option, Some, ap, sym, ◌∙◌, subst, arith}
use Rattle.std.proofs.lemmas.Result.{err_from_is_err_and}
use Rattle.log_survey.specs.Regions.{records_of}
use Rattle.recovery_laws.specs.area_reader.Store.{disk, graph}
use Rattle.recovery_laws.specs.layout.declared.marks.Marks.{Marks}
use Rattle.log_survey.specs.update_log.Frames.{records}
use Rattle.log_survey.specs.update_log.RecordCounts.{next_generation}
use Rattle.graph_check.specs.log_record.declared.format.Record.{Record}
use Rattle.std.specs.Prelude.{IfSome}
use Rattle.area_recovery.specs.FoundLogs.{HasGeneration}
use Rattle.area_recovery.specs.DigestedLogs.{CanDigest, DigestsAll, NamesRefused, StandsAtStart}
use Rattle.area_recovery.specs.Recovers.{AreThese}
use Rattle.area_recovery.specs.Regions.{regions_read}
use Rattle.area_recovery.proofs.Changing.{still_stays}
use Rattle.area_recovery.proofs.ClientParts.{no_region, none_digested, part_has, read_never, read_only_digest}
use Rattle.area_recovery.proofs.DigestAnswers.{each_err, each_ok}
use Rattle.area_recovery.proofs.ReadLogs.{all_only_read}
use Rattle.area_recovery.proofs.ReadRegions.{area_answers, read_answers, still_answers}
use Rattle.area_recovery.proofs.SettlementPhases.{passed_on}
use Rattle.area_recovery.proofs.UndigestibleRecords.{nothing_to_digest, read_named}
use Rattle.area_recovery.proofs.log_parts.digest_second.Goals as goal

one_of : (o : Option Marks) (a b : Marks) → o ≡ Some a → o ≡ Some b → a ≡ b
one_of o a b one two = cc

pub returns-in_default-clause-any_moment : goal.returns-in_default-clause-any_moment
returns-in_default-clause-any_moment g c = still_stays g.M.Media g.met.M.Media.seen_now c.args.area.now c.args.area.now (c.left_now.ensures.same c.requires.going) (AreThese (regions_read g.M.Media c.args.regions.now))

pub returns-in_default-clause-same : goal.returns-in_default-clause-same
returns-in_default-clause-same g c = all_only_read g.M.Media c.args.regions.now

pub returns-in_default-clause-digested : goal.returns-in_default-clause-digested
returns-in_default-clause-digested g c = none_digested g.M.Media c.args.part.client (record { generation = next_generation c.args.part.generation; done = 0 }) (records_of (regions_read g.M.Media c.args.regions.now c.args.part.client) c.args.region) c.args.area.now
    (no_region (regions_read g.M.Media c.args.regions.now c.args.part.client) c.args.region c.in_default.is)

pub returns-in_default-clause-answers : goal.returns-in_default-clause-answers
returns-in_default-clause-answers g c = still_answers g.M.Media 0 c.args.area.now c.args.regions.now c.args.regions.now c.requires.going

pub read_region_records-requires-clause-client : goal.read_region_records-requires-clause-client
read_region_records-requires-clause-client g c = c.requires.client

pub read_region_records-requires-clause-region : goal.read_region_records-requires-clause-region
read_region_records-requires-clause-region g c =
    let is = subst (λ (o : Option ℕ). IfSome o (HasGeneration (regions_read g.M.Media c.args.regions.now c.args.part.client) c.args.part.generation)) c.in-Some.is c.requires.found in
    let region = is.0 in
    omega (arith, region)

pub read_region_records-requires-clause-all : goal.read_region_records-requires-clause-all
read_region_records-requires-clause-all g c = c.requires.all

pub read_region_records-requires-clause-idle : goal.read_region_records-requires-clause-idle
read_region_records-requires-clause-idle g c = c.requires.idle

pub returns-in_err-records-clause-any_moment : goal.returns-in_err-records-clause-any_moment
returns-in_err-records-clause-any_moment g c = still_stays g.M.Media g.met.M.Media.seen_now c.args.area.now c.args.area.now (c.left_now.ensures.same c.requires.going) (AreThese (regions_read g.M.Media c.args.regions.now))

pub returns-in_err-records-clause-same : goal.returns-in_err-records-clause-same
returns-in_err-records-clause-same g c = c.in_err-records.ensures.same

pub returns-in_err-records-clause-digested : goal.returns-in_err-records-clause-digested
returns-in_err-records-clause-digested g c =
    let p = err_from_is_err_and c.from_residual.result c.from_residual.ensures.1 in
    rw p.1 tt

pub returns-in_err-records-clause-never : goal.returns-in_err-records-clause-never
returns-in_err-records-clause-never g c =
    let p = err_from_is_err_and c.from_residual.result c.from_residual.ensures.1 in
    rw (p.1, p.2) (λ sizes now state same r. read_never c.args.part.client c.in-Some.region (regions_read g.M.Media c.args.regions.now) c.in_err-records.field-0.0 c.requires.client (omega (arith, (subst (λ (o : Option ℕ). IfSome o (HasGeneration (regions_read g.M.Media c.args.regions.now c.args.part.client) c.args.part.generation)) c.in-Some.is c.requires.found).0)) c.in_err-records.ensures.only sizes now state (g.M.Media.seen c.args.area.now.media) same r)

pub returns-in_err-records-clause-only : goal.returns-in_err-records-clause-only
returns-in_err-records-clause-only g c =
    let p = err_from_is_err_and c.from_residual.result c.from_residual.ensures.1 in
    rw (p.1, p.2) (read_only_digest c.args.part.client (records (regions_read g.M.Media c.args.regions.now c.args.part.client c.in-Some.region)) c.in_err-records.field-0.0 c.in_err-records.ensures.only)

pub returns-in_err-records-clause-answers : goal.returns-in_err-records-clause-answers
returns-in_err-records-clause-answers g c =
    let p = err_from_is_err_and c.from_residual.result c.from_residual.ensures.1 in
    rw (p.1, p.2) (read_answers g.M.Media c.in_err-records.field-0.0 c.args.area.now c.args.regions.now c.read_region_records.new.regions c.requires.going c.in_err-records.ensures.fault)

pub digest_next_part-requires-clause-client : goal.digest_next_part-requires-clause-client
digest_next_part-requires-clause-client g c = c.requires.client

pub digest_next_part-requires-clause-all : goal.digest_next_part-requires-clause-all
digest_next_part-requires-clause-all g c = c.requires.from

pub digest_next_part-requires-clause-going : goal.digest_next_part-requires-clause-going
digest_next_part-requires-clause-going g c = c.requires.going

pub digest_next_part-requires-clause-spelled : goal.digest_next_part-requires-clause-spelled
digest_next_part-requires-clause-spelled g c = c.in_ok-records.ensures.spelled

pub digest_next_part-requires-clause-few : goal.digest_next_part-requires-clause-few
digest_next_part-requires-clause-few g c = c.in_ok-records.ensures.few

pub returns-clause-any_moment : goal.returns-clause-any_moment
returns-clause-any_moment g c =
    let m = g.M.Media in
    let these = regions_read m c.args.regions.now in
    let client = c.args.part.client in
    let gen = c.args.part.generation in
    let region = c.in-Some.region in
    let items = c.in_ok-records.records.items in
    let read : items ≡ records (these client region) = c.in_ok-records.ensures.found in
    let part : HasGeneration (these client) gen region = subst (λ (o : Option ℕ). IfSome o (HasGeneration (these client) gen)) c.in-Some.is c.requires.found in
    let all_of : items ≡ records_of (these client) c.args.region = read ∙ sym (ap (records_of (these client)) c.in-Some.is) in
    let start : items ≢ [] → StandsAtStart (AreThese these) client gen (m.seen c.args.area.now.media) = λ some. c.requires.in_turn (λ none. some (all_of ∙ none)) in
    c.digest_next_part.ensures.any_moment these (λ now same. part_has these now client gen region items c.requires.client part read same) start

pub returns-clause-same : goal.returns-clause-same
returns-clause-same g c = c.in_ok-records.ensures.same

pub returns-clause-digested : goal.returns-clause-digested
returns-clause-digested g c =
    let m = g.M.Media in
    let these = regions_read m c.args.regions.now in
    let client = c.args.part.client in
    let gen = c.args.part.generation in
    let region = c.in-Some.region in
    let items = c.in_ok-records.records.items in
    let read : items ≡ records (these client region) = c.in_ok-records.ensures.found in
    let part : HasGeneration (these client) gen region = subst (λ (o : Option ℕ). IfSome o (HasGeneration (these client) gen)) c.in-Some.is c.requires.found in
    let all_of : items ≡ records_of (these client) c.args.region = read ∙ sym (ap (records_of (these client)) c.in-Some.is) in
    let start : items ≢ [] → StandsAtStart (AreThese these) client gen (m.seen c.args.area.now.media) = λ some. c.requires.in_turn (λ none. some (all_of ∙ none)) in
    each_ok c.digest_next_part.result c.digest_next_part.ensures.digested (λ all. subst (λ (rs : List Record). DigestsAll m client (record { generation = next_generation gen; done = 0 }) rs c.args.area.now c.digest_next_part.new.area) all_of all)

pub returns-clause-never : goal.returns-clause-never
returns-clause-never g c =
    let m = g.M.Media in
    let these = regions_read m c.args.regions.now in
    let client = c.args.part.client in
    let gen = c.args.part.generation in
    let region = c.in-Some.region in
    let items = c.in_ok-records.records.items in
    let read : items ≡ records (these client region) = c.in_ok-records.ensures.found in
    let part : HasGeneration (these client) gen region = subst (λ (o : Option ℕ). IfSome o (HasGeneration (these client) gen)) c.in-Some.is c.requires.found in
    let all_of : items ≡ records_of (these client) c.args.region = read ∙ sym (ap (records_of (these client)) c.in-Some.is) in
    let start : items ≢ [] → StandsAtStart (AreThese these) client gen (m.seen c.args.area.now.media) = λ some. c.requires.in_turn (λ none. some (all_of ∙ none)) in
    each_err _ _ c.digest_next_part.result c.digest_next_part.ensures.never (λ e never sizes now state same r. never these (λ now same. part_has these now client gen region items c.requires.client part read same) start sizes now state same r)

pub returns-clause-only : goal.returns-clause-only
returns-clause-only g c = c.digest_next_part.ensures.only

pub returns-clause-answers : goal.returns-clause-answers
returns-clause-answers g c = area_answers g.M.Media c.digest_next_part.result c.args.area.now c.digest_next_part.new.area c.args.regions.now c.read_region_records.new.regions c.digest_next_part.ensures.answers

pub returns-in_default-clause-good : goal.returns-in_default-clause-good
returns-in_default-clause-good g c =
    let old = c.args.area.now in
    nothing_to_digest old.geometry.units (graph old.geometry (disk g.M.Media old)) (records_of (regions_read g.M.Media c.args.regions.now c.args.part.client) c.args.region) (no_region (regions_read g.M.Media c.args.regions.now c.args.part.client) c.args.region c.in_default.is)

pub returns-in_err-records-clause-good : goal.returns-in_err-records-clause-good
returns-in_err-records-clause-good g c =
    let p = err_from_is_err_and c.from_residual.result c.from_residual.ensures.1 in
    rw p.1 tt

pub returns-in_err-records-clause-bad : goal.returns-in_err-records-clause-bad
returns-in_err-records-clause-bad g c =
    let m = g.M.Media in
    let old = c.args.area.now in
    let these = regions_read m c.args.regions.now c.args.part.client in
    let part : HasGeneration these c.args.part.generation c.in-Some.region = subst (λ (o : Option ℕ). IfSome o (HasGeneration these c.args.part.generation)) c.in-Some.is c.requires.found in
    let region = part.0 in
    passed_on c.from_residual.result _ _ c.from_residual.ensures.1
    (λ few. read_named c.args.part.client c.args.part.before old.geometry.units (graph old.geometry (disk m old)) (records_of these c.args.region) (records (these c.in-Some.region)) c.in_err-records.field-0.0 c.in_err-records.ensures.only (few c.in-Some.region (omega (arith, region))))

pub returns-clause-good : goal.returns-clause-good
returns-clause-good g c =
    let m = g.M.Media in
    let old = c.args.area.now in
    let these = regions_read m c.args.regions.now c.args.part.client in
    let all_of : c.in_ok-records.records.items ≡ records_of these c.args.region = c.in_ok-records.ensures.found ∙ sym (ap (records_of these) c.in-Some.is) in
    each_ok c.digest_next_part.result c.digest_next_part.ensures.good (λ good. subst (CanDigest old.geometry.units (graph old.geometry (disk m old))) all_of good)

pub returns-clause-bad : goal.returns-clause-bad
returns-clause-bad g c =
    let m = g.M.Media in
    let old = c.args.area.now in
    let part = c.args.part in
    let these = regions_read m c.args.regions.now part.client in
    let all_of : c.in_ok-records.records.items ≡ records_of these c.args.region = c.in_ok-records.ensures.found ∙ sym (ap (records_of these) c.in-Some.is) in
    each_err _ _ c.digest_next_part.result c.digest_next_part.ensures.bad (λ e bad few. subst (λ (rs : List Record). NamesRefused part.client part.before old.geometry.units (graph old.geometry (disk m old)) rs e) all_of bad)

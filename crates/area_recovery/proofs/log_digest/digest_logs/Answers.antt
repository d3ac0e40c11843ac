use Rattle.std.proofs.Common.{◌≡◌, ◌<◌, ◌+◌, ℕ, true, length, get_or, Option, Some, None, refl, ap, sym, ◌∙◌, subst, arith}
use Rattle.std.proofs.lemmas.List.Elements.{length_all_zip}
use Rattle.std.proofs.lemmas.Option.{slice_get-get_or}
use Rattle.std.specs.Prelude.{slice_get}
use Rattle.recovery_laws.specs.digester.MarkMoves.{mark_of}
use Rattle.recovery_laws.specs.layout.declared.marks.Marks.{Marks}
use Rattle.area_recovery.specs.declared.log_search.FoundLog.{FoundLog}
use Rattle.std.proofs.lemmas.Result.{err_from_is_err_and}
use Rattle.log_survey.proofs.world_invariant_lemmas.Owners as owners
use Rattle.recovery_laws.specs.area_reader.Store.{disk, graph, marks}
use Rattle.recovery_laws.specs.layout.declared.marks.Mark.{Mark}
use Rattle.posix_calls.specs.Operations.{is_client}
use Rattle.area_recovery.specs.DigestedLogs.{CanDigest, DigestsLog, IsFirstRefused}
use Rattle.area_recovery.specs.FoundLogs.{HoldsFew, IsFound, log_by}
use Rattle.area_recovery.specs.Recovers.{AreThese, Regions}
use Rattle.area_recovery.specs.Regions.{IsOnlyRead, regions_read}
use Rattle.area_recovery.proofs.Changing.{still_stays}
use Rattle.area_recovery.proofs.DigestedClients.{AreDigestedTo, all_good, all_graph, all_none, found_at, next_undigestible, none_digested, one_more_digested}
use Rattle.area_recovery.proofs.ReadLogs.{all_only_read}
use Rattle.area_recovery.proofs.ReadRegions.{all_read_on, either_on, idle_still, regions_still}
use Rattle.area_recovery.proofs.Staying.{recovered_now, stays_on}
use Rattle.area_recovery.specs.Errors.{OnBadLog}
use Rattle.area_recovery.proofs.SettlementPhases.{passed_on}
use Rattle.area_recovery.proofs.log_digest.digest_logs.Goals as goal

one_of : (o : Option Marks) (a b : Marks) → o ≡ Some a → o ≡ Some b → a ≡ b
one_of o a b one two = cc

pub loop-before-init : goal.loop-before-init
loop-before-init g c =
    let m = g.M.Media in
    let old = c.args.area.now in
    record {
      going = c.requires.going;
      stays = still_stays m g.met.M.Media.seen_now old old (c.left_now.ensures.same c.requires.going) (AreThese (regions_read m c.args.regions.now));
      read = all_only_read m c.args.regions.now;
      digested = none_digested m (regions_read m c.args.regions.now) old (c.left_now.ensures.opens c.requires.going).spelled.marks;
      geometry = refl;
      faults = omega arith;
    }

pub digest_log-requires : goal.digest_log-requires
digest_log-requires g c =
    let m = g.M.Media in
    let i = c.loop-before.invariant in
    let n = c.loop-before.before in
    let is : is_client (n + 1) ≡ true = owners.client_is (n + 1) (omega arith) (omega (arith, c.loop-before-test.true)) in
    record {
      client = is;
      going = i.going;
      all = sym (length_all_zip (IsOnlyRead m) c.args.regions.now c.loop-before.regions i.read) ∙ c.requires.all;
      idle = idle_still m c.args.regions.now c.loop-before.regions i.read (λ k v there. (c.requires.idle k v there).0);
      found = λ v are.
          let these = regions_read m c.args.regions.now in
          let d = i.digested in
          let log : FoundLog = get_or c.args.logs.now n (record { counted = record { first = None; second = None }; generation = 0 }) in
          let low : n < length c.args.logs.now = (let eight = c.requires.eight in let under = c.loop-before-test.true in omega (arith, eight, under)) in
          let there : slice_get c.args.logs.now n ≡ Some log = slice_get-get_or c.args.logs.now n (record { counted = record { first = None; second = None }; generation = 0 }) low in
          let still = regions_still m c.args.regions.now c.loop-before.regions i.read in
          let same : mark_of v (n + 1) ≡ mark_of d.before (n + 1) = ap (λ (u : Marks). mark_of u (n + 1)) (one_of (marks (disk m c.loop-before.area)) v d.after are d.is) ∙ d.others (n + 1) is (omega arith) in
          subst (λ (t : Regions). IsFound (mark_of v (n + 1)) (t (n + 1)) log) (sym still)
          (subst (λ (k : Mark). IsFound k (these (n + 1)) log) (sym same) (found_at d.before these c.args.logs.now n log is there (c.requires.logs d.before d.was)));
    }

pub loop-before-preserved : goal.loop-before-preserved
loop-before-preserved g c =
    let m = g.M.Media in
    let i = c.loop-before.invariant in
    let n = c.loop-before.before in
    let old = c.args.area.now in
    let mid = c.loop-before.area in
    let new = c.digest_log.new.area in
    let these = regions_read m c.args.regions.now in
    let e = c.in_ok-digest_log.ensures in
    let still = regions_still m c.args.regions.now c.loop-before.regions i.read in
    let is : is_client (n + 1) ≡ true = owners.client_is (n + 1) (omega arith) (omega (arith, c.loop-before-test.true)) in
    record {
      going = e.answers.quiet;
      stays = stays_on m g.met.M.Media.seen_now (AreThese these) (AreThese (regions_read m c.loop-before.regions)) old.media mid.media new.media (λ now are. subst (λ (t : Regions). AreThese t now) (sym still) are) i.stays e.any_moment;
      read = all_read_on m c.args.regions.now c.loop-before.regions c.digest_log.new.regions i.read e.same;
      digested = one_more_digested m these n old mid new is i.digested (λ v are. subst (λ (t : Regions). DigestsLog m (n + 1) t v mid new) still (e.digested v are))
          i.geometry (λ v are. subst (λ (t : Regions). CanDigest mid.geometry.units (graph mid.geometry (disk m mid)) (log_by v t (n + 1))) still (e.good v are))
          (λ sizes now state same r. recovered_now m g.met.M.Media.seen_now (AreThese these) old.media mid.media i.stays sizes now state same r);
      geometry = e.answers.geometry ∙ i.geometry;
      faults = (let before = i.faults in let more = e.answers.more_faults in omega (arith, before, more));
    }

pub returns-in_err-digest_log-clause-any_moment : goal.returns-in_err-digest_log-clause-any_moment
returns-in_err-digest_log-clause-any_moment g c =
    let m = g.M.Media in
    let i = c.loop-before.invariant in
    let still = regions_still m c.args.regions.now c.loop-before.regions i.read in
    stays_on m g.met.M.Media.seen_now (AreThese (regions_read m c.args.regions.now)) (AreThese (regions_read m c.loop-before.regions)) c.args.area.now.media c.loop-before.area.media c.digest_log.new.area.media
    (λ now are. subst (λ (t : Regions). AreThese t now) (sym still) are) i.stays c.in_err-digest_log.ensures.any_moment

pub returns-in_err-digest_log-clause-same : goal.returns-in_err-digest_log-clause-same
returns-in_err-digest_log-clause-same g c = all_read_on g.M.Media c.args.regions.now c.loop-before.regions c.digest_log.new.regions c.loop-before.invariant.read c.in_err-digest_log.ensures.same

pub returns-in_err-digest_log-clause-never : goal.returns-in_err-digest_log-clause-never
returns-in_err-digest_log-clause-never g c =
    let m = g.M.Media in
    let i = c.loop-before.invariant in
    let still = regions_still m c.args.regions.now c.loop-before.regions i.read in
    let p = err_from_is_err_and c.from_residual.result c.from_residual.ensures.1 in
    rw (p.1, p.2) (λ sizes now state same r. c.in_err-digest_log.ensures.never sizes now state (subst (λ (t : Regions). AreThese t now) (sym still) same)
    (recovered_now m g.met.M.Media.seen_now (AreThese (regions_read m c.args.regions.now)) c.args.area.now.media c.loop-before.area.media i.stays sizes now state same r))

pub returns-in_err-digest_log-clause-answers : goal.returns-in_err-digest_log-clause-answers
returns-in_err-digest_log-clause-answers g c =
    let m = g.M.Media in
    let i = c.loop-before.invariant in
    let p = err_from_is_err_and c.from_residual.result c.from_residual.ensures.1 in
    rw (p.1, p.2) (either_on m _ c.args.area.now c.loop-before.area c.digest_log.new.area c.args.regions.now c.loop-before.regions c.digest_log.new.regions i.geometry i.faults i.read c.in_err-digest_log.ensures.answers)

pub returns-clause-digested : goal.returns-clause-digested
returns-clause-digested g c =
    let m = g.M.Media in
    let these = regions_read m c.args.regions.now in
    let eight : c.loop-before.before ≡ 8 = omega (arith, c.loop-before-test.false, c.loop-before.auto.before-end) in
    all_graph m these c.args.area.now c.loop-before.area (subst (λ (k : ℕ). AreDigestedTo m these k c.args.area.now c.loop-before.area) eight c.loop-before.invariant.digested)

pub returns-clause-good : goal.returns-clause-good
returns-clause-good g c =
    let m = g.M.Media in
    let these = regions_read m c.args.regions.now in
    let eight : c.loop-before.before ≡ 8 = omega (arith, c.loop-before-test.false, c.loop-before.auto.before-end) in
    all_good m these c.args.area.now c.loop-before.area (subst (λ (k : ℕ). AreDigestedTo m these k c.args.area.now c.loop-before.area) eight c.loop-before.invariant.digested)

pub returns-in_err-digest_log-clause-good : goal.returns-in_err-digest_log-clause-good
returns-in_err-digest_log-clause-good g c =
    let p = err_from_is_err_and c.from_residual.result c.from_residual.ensures.1 in
    rw p.1 tt

pub returns-clause-none : goal.returns-clause-none
returns-clause-none g c =
    let m = g.M.Media in
    let these = regions_read m c.args.regions.now in
    let eight : c.loop-before.before ≡ 8 = omega (arith, c.loop-before-test.false, c.loop-before.auto.before-end) in
    all_none m these c.args.area.now c.loop-before.area (subst (λ (k : ℕ). AreDigestedTo m these k c.args.area.now c.loop-before.area) eight c.loop-before.invariant.digested)

pub returns-clause-any_moment : goal.returns-clause-any_moment
returns-clause-any_moment g c = c.loop-before.invariant.stays

pub returns-clause-same : goal.returns-clause-same
returns-clause-same g c = c.loop-before.invariant.read

pub returns-in_err-digest_log-clause-digested : goal.returns-in_err-digest_log-clause-digested
returns-in_err-digest_log-clause-digested g c =
    let p = err_from_is_err_and c.from_residual.result c.from_residual.ensures.1 in
    rw p.1 tt

pub returns-in_err-digest_log-clause-none : goal.returns-in_err-digest_log-clause-none
returns-in_err-digest_log-clause-none g c =
    let p = err_from_is_err_and c.from_residual.result c.from_residual.ensures.1 in
    rw p.1 tt

pub returns-in_err-digest_log-clause-only : goal.returns-in_err-digest_log-clause-only
returns-in_err-digest_log-clause-only g c =
    let p = err_from_is_err_and c.from_residual.result c.from_residual.ensures.1 in
    rw (p.1, p.2) c.in_err-digest_log.ensures.only

pub returns-clause-answers : goal.returns-clause-answers
returns-clause-answers g c =
    let i = c.loop-before.invariant in
    record { geometry = i.geometry; more_faults = i.faults; quiet = i.going; quiet_refused = tt; fault = tt }

pub returns-in_err-digest_log-clause-bad : goal.returns-in_err-digest_log-clause-bad
returns-in_err-digest_log-clause-bad g c =
    let m = g.M.Media in
    let i = c.loop-before.invariant in
    let n = c.loop-before.before in
    let mid = c.loop-before.area in
    let these = regions_read m c.args.regions.now in
    let still = regions_still m c.args.regions.now c.loop-before.regions i.read in
    let is : is_client (n + 1) ≡ true = owners.client_is (n + 1) (omega arith) (omega (arith, c.loop-before-test.true)) in
    let e = c.in_err-digest_log.field-0.0 in
    passed_on c.from_residual.result _ _ c.from_residual.ensures.1 (λ v are few.
    next_undigestible m these n c.args.area.now mid is i.digested i.geometry v are e (λ w its.
    subst (λ (t : Regions). HoldsFew (t (n + 1)) → OnBadLog e (λ c place. (c ≡ n + 1) × IsFirstRefused mid.geometry.units (graph mid.geometry (disk m mid)) (log_by w t (n + 1)) place)) still (c.in_err-digest_log.ensures.bad w its) (few (n + 1) is)))

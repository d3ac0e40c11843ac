use Rattle.std.proofs.Common.{rules, ◌≡◌, ◌∙◌, ◌+◌, ◌-◌, ℕ, List, length, sym, subst, arith, below_more}
use Rattle.std.proofs.lemmas.Option.{slice_get_within}
use Rattle.std.proofs.lemmas.Result.{err_from_is_err_and}
use Rattle.log_survey.specs.update_log.Stage.{IsIdle}
use Rattle.graph_check.specs.log_record.declared.format.Record.{Record}
use Rattle.log_survey.specs.Owners.{AreAdded, IsClear, owner}
use Rattle.recovery_laws.specs.digester.MarkMoves.{mark_of}
use Rattle.area_recovery.specs.FoundLogs.{AreFound, IsFound, log_by, HoldsFew, NamesForeign}
use Rattle.area_recovery.specs.Recovers.{Regions}
use Rattle.area_recovery.specs.Regions.{regions_read}
use Rattle.area_recovery.proofs.ReadLogs.{all_only_read}
use Rattle.area_recovery.proofs.RegionReads.{each_still, found_more, more_read, regions_still, risen_before}
use Rattle.log_survey.proofs.world_invariant_lemmas.Owners as owners
use Rattle.area_recovery.proofs.SettlementPhases.{passed_on}
use Rattle.area_recovery.proofs.SharedRecords.{sharing_named}
use Rattle.area_recovery.proofs.log_search.find_logs.Goals as goal

pub loop-client-init : goal.loop-client-init
loop-client-init g c =
    let none : length c.reserve.new.self.items ≡ 0 = search rules in
    record {
      same = all_only_read g.M.Media c.args.regions.now;
      owners = λ i h. c.in_ok-owners.ensures i;
      clear = λ n lt. absurd (omega (arith, lt));
      count = none;
      found = λ client log is h. absurd (omega (arith, slice_get_within c.reserve.new.self.items (client - 1) log h, none));
      room = search rules;
    }

pub find_next-requires-clause-idle : goal.find_next-requires-clause-idle
find_next-requires-clause-idle g c =
    each_still g.M.Media (λ v. IsIdle v.stage) (λ v w one is. subst IsIdle (sym one.stage) is) c.args.regions.now c.loop-client.regions c.loop-client.invariant.same (λ k v at. (c.requires.idle k v at).0)

pub returns-in_err-found-clause-same : goal.returns-in_err-found-clause-same
returns-in_err-found-clause-same g c = more_read g.M.Media c.args.regions.now c.loop-client.regions c.find_next.new.regions c.loop-client.invariant.same c.find_next.ensures.same

pub returns-in_err-found-clause-bad : goal.returns-in_err-found-clause-bad
returns-in_err-found-clause-bad g c =
    let p = err_from_is_err_and c.from_residual-in_err-found.result c.from_residual-in_err-found.ensures.1 in
    let i = c.loop-client.invariant in
    let n = c.loop-client.client in
    let law = c.owners_decide_whether_logs_are_apart.ensures in
    let by : Regions → ℕ → List Record = log_by c.args.marks.now in
    let was = regions_read g.M.Media c.args.regions.now in
    let m = mark_of c.args.marks.now (n + 1) in
    let still = regions_still g.M.Media c.args.regions.now c.loop-client.regions i.same in
    rw (p.1) (λ client place is apart. c.in_err-found.ensures.bad client place (sym p.2 ∙ is)
    (subst (λ (regions : Regions). IsClear (owner c.loop-client.owners) (n + 1) (by regions (n + 1))) (sym still)
    ((law.clear (by was) n (owner c.loop-client.owners) i.owners (c.counted_records_touch_inodes.ensures.counted m.generation m.done (was (n + 1)))).1 ((law.apart (by was)).0 apart n c.loop-client-test.true))))

pub returns-in_err-found-clause-fault : goal.returns-in_err-found-clause-fault
returns-in_err-found-clause-fault g c =
    let p = err_from_is_err_and c.from_residual-in_err-found.result c.from_residual-in_err-found.ensures.1 in
    rw (p.1) (λ is. risen_before g.M.Media c.args.regions.now c.loop-client.regions c.find_next.new.regions c.loop-client.invariant.same (c.in_err-found.ensures.fault (sym p.2 ∙ is)))

pub loop-client-preserved : goal.loop-client-preserved
loop-client-preserved g c =
    let i = c.loop-client.invariant in
    let n = c.loop-client.client in
    let law = c.owners_decide_whether_logs_are_apart.ensures in
    let by : Regions → ℕ → List Record = log_by c.args.marks.now in
    let was = regions_read g.M.Media c.args.regions.now in
    let m = mark_of c.args.marks.now (n + 1) in
    let still = regions_still g.M.Media c.args.regions.now c.loop-client.regions i.same in
    let e = c.in_ok-found.ensures in
    let clear : IsClear (owner c.loop-client.owners) (n + 1) (by was (n + 1)) = subst (λ (regions : Regions). IsClear (owner c.loop-client.owners) (n + 1) (by regions (n + 1))) still e.clear in
    let added : AreAdded (owner c.loop-client.owners) (owner c.find_next.new.owners) (n + 1) (by was (n + 1)) =
    subst (λ (regions : Regions). AreAdded (owner c.loop-client.owners) (owner c.find_next.new.owners) (n + 1) (by regions (n + 1))) still e.added in
    record {
      same = more_read g.M.Media c.args.regions.now c.loop-client.regions c.find_next.new.regions i.same c.find_next.ensures.same;
      owners = law.next (by was) n (owner c.loop-client.owners) (owner c.find_next.new.owners) i.owners added;
      clear = below_more _ _ i.clear ((law.clear (by was) n (owner c.loop-client.owners) i.owners (c.counted_records_touch_inodes.ensures.counted m.generation m.done (was (n + 1)))).0 clear);
      count = search rules;
      found = subst (AreFound c.args.marks.now was) (sym c.in-Ok.ensures.items)
          (found_more c.args.marks.now was c.loop-client.logs.items n c.in_ok-found.found i.count i.found (subst (λ (regions : Regions). IsFound (mark_of c.args.marks.now (n + 1)) (regions (n + 1)) c.in_ok-found.found) still e.found));
      room = search rules;
    }

pub returns-clause-apart : goal.returns-clause-apart
returns-clause-apart g c =
    (c.owners_decide_whether_logs_are_apart.ensures.apart (log_by c.args.marks.now (regions_read g.M.Media c.args.regions.now))).1
    (λ n lt. c.loop-client.invariant.clear n (omega (arith, lt, c.loop-client-test.false)))

pub returns-in_err-owners-clause-same : goal.returns-in_err-owners-clause-same
returns-in_err-owners-clause-same g c = all_only_read g.M.Media c.args.regions.now

pub returns-in_err-reserve-clause-same : goal.returns-in_err-reserve-clause-same
returns-in_err-reserve-clause-same g c = all_only_read g.M.Media c.args.regions.now

pub returns-in_err-found-clause-first : goal.returns-in_err-found-clause-first
returns-in_err-found-clause-first g c =
    let i = c.loop-client.invariant in
    let n = c.loop-client.client in
    let logs : ℕ → List Record = log_by c.args.marks.now (regions_read g.M.Media c.args.regions.now) in
    let m = mark_of c.args.marks.now (n + 1) in
    let still = regions_still g.M.Media c.args.regions.now c.loop-client.regions i.same in
    let was = regions_read g.M.Media c.args.regions.now in
    let first = subst (λ (regions : Regions). HoldsFew (regions (n + 1)) → NamesForeign (owner c.loop-client.owners) (n + 1) (log_by c.args.marks.now regions (n + 1)) c.in_err-found.field-0.0) still c.in_err-found.ensures.first in
    passed_on c.from_residual-in_err-found.result _ _ c.from_residual-in_err-found.ensures.1 (λ few.
    sharing_named logs n (owner c.loop-client.owners) c.loop-client-test.true i.owners i.clear (c.counted_records_touch_inodes.ensures.counted m.generation m.done (was (n + 1))) _
    (first (few (n + 1) (owners.client_is (n + 1) (omega arith) (omega (arith, c.loop-client-test.true))))))

use Rattle.std.proofs.Common.{rules, ◌≡◌, ◌+◌, ◌<◌, length, subst, sym, ◌∙◌, arith}
use Rattle.std.proofs.lemmas.Result.{IfErr-weaker, IfOk-weaker, err_from_is_err_and, on_ok_weaker}
use Rattle.log_survey.specs.update_log.Stage.{IsIdle}
use Rattle.recovery_laws.specs.layout.declared.marks.Mark.{Mark}
use Rattle.log_survey.specs.Owners.{AreAdded, IsClear, owner}
use Rattle.log_survey.specs.update_log.RecordCounts.{counted_records}
use Rattle.area_recovery.specs.FoundLogs.{IsFound, NamesForeign}
use Rattle.area_recovery.specs.Regions.{regions_read}
use Rattle.area_recovery.proofs.RegionReads.{each_still, mark_at, more_read, risen_before, two_read}
use Rattle.area_recovery.proofs.SettlementPhases.{of_err, passed_on}
use Rattle.area_recovery.proofs.SharedRecords.{none_named}
use Rattle.area_recovery.proofs.log_search.find_next.Goals as goal

pub read_at-requires-2-clause-idle : goal.read_at-requires-2-clause-idle
read_at-requires-2-clause-idle g c = each_still g.M.Media (λ v. IsIdle v.stage) (λ v w one is. subst IsIdle (sym one.stage) is) c.args.regions.now c.read_at.new.regions c.read_at.ensures.same c.requires.idle

pub returns-in_err-odd-clause-same : goal.returns-in_err-odd-clause-same
returns-in_err-odd-clause-same g c = more_read g.M.Media c.args.regions.now c.read_at.new.regions c.read_at-2.new.regions c.read_at.ensures.same c.read_at-2.ensures.same

pub returns-in_err-odd-clause-fault : goal.returns-in_err-odd-clause-fault
returns-in_err-odd-clause-fault g c =
    let p = err_from_is_err_and c.from_residual-in_err-odd.result c.from_residual-in_err-odd.ensures.1 in
    rw (p.1) (λ is. risen_before g.M.Media c.args.regions.now c.read_at.new.regions c.read_at-2.new.regions c.read_at.ensures.same (c.in_err-odd.ensures.fault (sym p.2 ∙ is)))

pub returns-clause-same : goal.returns-clause-same
returns-clause-same g c = more_read g.M.Media c.args.regions.now c.read_at.new.regions c.read_at-2.new.regions c.read_at.ensures.same c.read_at-2.ensures.same

pub returns-clause-found : goal.returns-clause-found
returns-clause-found g c =
    let v = c.args.marks.now in
    let n = c.args.before in
    let regions = regions_read g.M.Media c.args.regions.now (n + 1) in
    let eight : length v.clients ≡ 8 = search rules in
    let within : n < length v.clients = omega (arith, c.requires.client, eight) in
    let read = two_read g.M.Media c.args.regions.now c.read_at.new.regions n _ _ _ _ c.read_at.ensures.same c.in_ok-even.ensures.read c.in_ok-odd.ensures.read in
    IfOk-weaker c.find_log.result _ _ (λ log found. subst (λ (m : Mark). IsFound m regions log) (mark_at v n _ within) (found regions read)) c.find_log.ensures.found

pub returns-clause-clear : goal.returns-clause-clear
returns-clause-clear g c =
    let v = c.args.marks.now in
    let n = c.args.before in
    let regions = regions_read g.M.Media c.args.regions.now (n + 1) in
    let eight : length v.clients ≡ 8 = search rules in
    let within : n < length v.clients = omega (arith, c.requires.client, eight) in
    let read = two_read g.M.Media c.args.regions.now c.read_at.new.regions n _ _ _ _ c.read_at.ensures.same c.in_ok-even.ensures.read c.in_ok-odd.ensures.read in
    on_ok_weaker c.find_log.result (λ clear. subst (λ (m : Mark). IsClear (owner c.args.owners.now) (n + 1) (counted_records m.generation m.done regions)) (mark_at v n _ within) (clear regions read)) c.find_log.ensures.clear

pub returns-clause-added : goal.returns-clause-added
returns-clause-added g c =
    let v = c.args.marks.now in
    let n = c.args.before in
    let regions = regions_read g.M.Media c.args.regions.now (n + 1) in
    let eight : length v.clients ≡ 8 = search rules in
    let within : n < length v.clients = omega (arith, c.requires.client, eight) in
    let read = two_read g.M.Media c.args.regions.now c.read_at.new.regions n _ _ _ _ c.read_at.ensures.same c.in_ok-even.ensures.read c.in_ok-odd.ensures.read in
    on_ok_weaker c.find_log.result (λ added. subst (λ (m : Mark). AreAdded (owner c.args.owners.now) (owner c.find_log.new.owners) (n + 1) (counted_records m.generation m.done regions)) (mark_at v n _ within) (added regions read))
    c.find_log.ensures.added

pub returns-clause-bad : goal.returns-clause-bad
returns-clause-bad g c =
    let v = c.args.marks.now in
    let n = c.args.before in
    let regions = regions_read g.M.Media c.args.regions.now (n + 1) in
    let eight : length v.clients ≡ 8 = search rules in
    let within : n < length v.clients = omega (arith, c.requires.client, eight) in
    let read = two_read g.M.Media c.args.regions.now c.read_at.new.regions n _ _ _ _ c.read_at.ensures.same c.in_ok-even.ensures.read c.in_ok-odd.ensures.read in
    IfErr-weaker c.find_log.result _ _ (λ e refused client place is clear. refused regions read
    (subst (λ (m : Mark). IsClear (owner c.args.owners.now) (n + 1) (counted_records m.generation m.done regions)) (sym (mark_at v n _ within)) clear)) c.find_log.ensures.refused

pub returns-in_err-even-clause-first : goal.returns-in_err-even-clause-first
returns-in_err-even-clause-first g c = passed_on c.from_residual.result _ _ c.from_residual.ensures.1 (λ few. none_named _ _ c.in_err-even.ensures.only)

pub returns-in_err-odd-clause-first : goal.returns-in_err-odd-clause-first
returns-in_err-odd-clause-first g c = passed_on c.from_residual-in_err-odd.result _ _ c.from_residual-in_err-odd.ensures.1 (λ few. none_named _ _ c.in_err-odd.ensures.only)

pub returns-clause-first : goal.returns-clause-first
returns-clause-first g c =
    let v = c.args.marks.now in
    let n = c.args.before in
    let regions = regions_read g.M.Media c.args.regions.now (n + 1) in
    let eight : length v.clients ≡ 8 = search rules in
    let within : n < length v.clients = omega (arith, c.requires.client, eight) in
    let read = two_read g.M.Media c.args.regions.now c.read_at.new.regions n _ _ _ _ c.read_at.ensures.same c.in_ok-even.ensures.read c.in_ok-odd.ensures.read in
    of_err c.find_log.result _ (λ e first few. subst (λ (m : Mark). NamesForeign (owner c.args.owners.now) (n + 1) (counted_records m.generation m.done regions) e) (mark_at v n _ within) (first regions read few)) c.find_log.ensures.first

use Rattle.std.proofs.Common.{◌≡◌, ◌<◌, ◌≤◌, ◌+◌, ◌*◌, ◌-◌, ◌^◌, inr, ℕ, List, length, refl, ap, ◌∙◌, subst, arith}
use Rattle.std.proofs.lemmas.Result.{err_from_is_err_and}
use Rattle.log_survey.specs.update_log.Frames.{records}
use Rattle.graph_check.specs.log_record.declared.format.Record.{Record}
use Rattle.area_recovery.proofs.ReadRegions.{one_read, one_risen, read_at}
use Rattle.area_recovery.proofs.record_reads.read_region_records.Goals as goal

pub returns-in_err-records-clause-same : goal.returns-in_err-records-clause-same
returns-in_err-records-clause-same g c = one_read g.M.Media c.args.regions.now (2 * c.client_index.result + c.args.region) c.index-regions-place.result c.read_records.new.region c.read_records.ensures.same

pub returns-in_err-records-clause-fault : goal.returns-in_err-records-clause-fault
returns-in_err-records-clause-fault g c =
    let p = err_from_is_err_and c.from_residual.result c.from_residual.ensures.1 in
    let place : 2 * c.client_index.result + c.args.region < length c.args.regions.now = (let low = c.client_index.ensures.within in let small = c.requires.region in let all = c.requires.all in omega (arith, low, small, all)) in
    rw (p.1, p.2) (λ is. one_risen g.M.Media c.args.regions.now (2 * c.client_index.result + c.args.region) c.index-regions-place.result c.read_records.new.region place (c.in_err-records.ensures.fault is))

pub returns-then-len-clause-same : goal.returns-then-len-clause-same
returns-then-len-clause-same g c = one_read g.M.Media c.args.regions.now (2 * c.client_index.result + c.args.region) c.index-regions-place.result c.read_records.new.region c.read_records.ensures.same

pub returns-clause-found : goal.returns-clause-found
returns-clause-found g c =
    let place : 2 * c.client_index.result + c.args.region < length c.args.regions.now = (let low = c.client_index.ensures.within in let small = c.requires.region in let all = c.requires.all in omega (arith, low, small, all)) in
    let at : 2 * c.client_index.result + c.args.region ≡ 2 * (c.args.client - 1) + c.args.region = ap (λ (k : ℕ). 2 * k + c.args.region) c.client_index.ensures.is in
    c.in_ok-records.ensures.found ∙ ap records (read_at g.M.Media c.args.regions.now (2 * c.client_index.result + c.args.region) (2 * (c.args.client - 1) + c.args.region) c.index-regions-place.result place at)

pub returns-then-len-clause-only : goal.returns-then-len-clause-only
returns-then-len-clause-only g c =
    let place : 2 * c.client_index.result + c.args.region < length c.args.regions.now = (let low = c.client_index.ensures.within in let small = c.requires.region in let all = c.requires.all in omega (arith, low, small, all)) in
    let at : 2 * c.client_index.result + c.args.region ≡ 2 * (c.args.client - 1) + c.args.region = ap (λ (k : ℕ). 2 * k + c.args.region) c.client_index.ensures.is in
    let same = c.in_ok-records.ensures.found ∙ ap records (read_at g.M.Media c.args.regions.now (2 * c.client_index.result + c.args.region) (2 * (c.args.client - 1) + c.args.region) c.index-regions-place.result place at) in
    inr (inr (4294967295, refl, subst (λ (rs : List Record). 2 ^ 32 ≤ length rs) same (omega (arith, c.if-len.true, c.len.ensures))))

pub returns-clause-same : goal.returns-clause-same
returns-clause-same g c = one_read g.M.Media c.args.regions.now (2 * c.client_index.result + c.args.region) c.index-regions-place.result c.read_records.new.region c.read_records.ensures.same

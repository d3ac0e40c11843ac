use Rattle.std.proofs.Common.{slice_set}
use Rattle.std.proofs.lemmas.Result.{IfErr-weaker}
use Rattle.std.proofs.lemmas.Option.{slice_get-get_or}
use Rattle.area_recovery.proofs.RegionReads.{one_read}
use Rattle.area_recovery.proofs.ChangedRows.{set_here}
use Rattle.area_recovery.proofs.RegionRow.{risen_at}
use Rattle.area_recovery.proofs.log_search.read_at.Goals as goal

pub returns-clause-same : goal.returns-clause-same
returns-clause-same g c = one_read g.M.Media c.args.regions.now c.args.place c.index-regions-place.result c.read_region.new.region c.read_region.ensures.same

pub returns-clause-fault : goal.returns-clause-fault
returns-clause-fault g c =
    let new = c.read_region.new.region in
    IfErr-weaker c.read_region.result _ _ (λ e rose is. risen_at g.M.Media c.args.regions.now (slice_set c.args.regions.now c.args.place new) c.args.place _ new
    (slice_get-get_or c.args.regions.now c.args.place c.index-regions-place.result c.requires.there) (set_here c.args.regions.now c.args.place new c.requires.there) (rose is)) c.read_region.ensures.fault

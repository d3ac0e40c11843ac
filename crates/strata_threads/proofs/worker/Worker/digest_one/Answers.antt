use Rattle.std.proofs.Common.{subst, sym}
use Rattle.handoff.specs.Ends.{EndView}
use Rattle.handoff.specs.Line.{HasTaken}
use Rattle.libfs.specs.SealedRegion.{SealedRegionView}
use Rattle.strata_threads.specs.RegionHandover.{IsWorkedOn}
use Rattle.strata_threads.proofs.worker.Worker.digest_one.Goals as goal

pub returns-clause-returned : goal.returns-clause-returned
returns-clause-returned g c = λ _. (
  c.in-Some.region,
  c.free_records.new.self,
  subst (λ (e : EndView (SealedRegionView g.row.M.Denot)). HasTaken c.args.self.now.tasks.hands c.in-Some.region e.hands) (sym c.send_back.ensures.tasks) c.in-Some.ensures.taken,
  subst (λ (r : SealedRegionView g.row.M.Denot). IsWorkedOn g.M.Media c.in-Some.region r) (sym c.free_records.ensures) c.digest_region.ensures.worked,
  c.send_back.ensures.sent,
)

use Rattle.std.proofs.Common.{Err, subst, sym}
use Rattle.libfs.specs.SealedRegion.{AcceptsLog, SealedRegionView, log_of}
use Rattle.strata_threads.proofs.region_digest.accept_log.Goals as goal

-- the region is as it was
pub returns-in-Err-clause-refused : goal.returns-in-Err-clause-refused
returns-in-Err-clause-refused g c = (
  c.args.kernel.now,
  c.accept.new.kernel,
  subst (λ (r : SealedRegionView g.row.M.Denot). AcceptsLog g.M.Media c.args.kernel.now (log_of g.M.Media r) (Err c.in-Err.error) c.accept.new.kernel) (sym c.in-Err.ensures.refused) c.in-Err.ensures.accepts,
)

use Rattle.std.proofs.Common.{Option, subst, inl}
use Rattle.std.specs.Prelude.{IfSome}
use Rattle.libfs.specs.RegionSeal.{HasSealed}
use Rattle.libfs.specs.SealedRegion.{SealedRegionView}
use Rattle.strata_threads.proofs.thread_remains.ThreadRemains.hand_over.Goals as goal

pub returns-in-Some-clause-handed : goal.returns-in-Some-clause-handed
returns-in-Some-clause-handed g c = inl (
  c.in-Some.region,
  subst (λ (o : Option (SealedRegionView g.row.M.Denot)). IfSome o (λ x. HasSealed g.M.Media c.args.self.now.remains.client x c.seal.new.self.client)) c.in-Some.is c.in_ok-region.ensures.sealed,
  c.send.ensures.sent,
)

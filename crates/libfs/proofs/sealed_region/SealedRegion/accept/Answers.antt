use Rattle.std.proofs.Common.{Err, Ok, subst}
use Rattle.std.proofs.lemmas.Result.{err_from_is_err_and}
use Rattle.kernel_fs.specs.digester.SealedLog.{SealedView}
use Rattle.libfs.specs.SealedRegion.{AcceptsLog}
use Rattle.libfs.proofs.sealed_region.SealedRegion.accept.Goals as goal

pub returns-clause-accepts : goal.returns-clause-accepts
returns-clause-accepts g c =
    let e = c.in_ok-accept.ensures in
    subst (λ (x : SealedView). AcceptsLog g.K.Media c.args.kernel.now x (Ok tt) c.accept.new.self) c.log.ensures (record {
      accepted = e.accepted;
      can = e.can;
      step = e.step;
      region = e.region;
      out = e.out;
      not_at_mark = e.not_at_mark;
      already_accepted = e.already_accepted;
      failed = e.failed;
      refused = tt;
      area = e.area;
      opening = e.opening;
    })

pub returns-in_err-accept-clause-accepts : goal.returns-in_err-accept-clause-accepts
returns-in_err-accept-clause-accepts g c =
    let e = c.in_err-accept.ensures in
    let p = err_from_is_err_and c.from_residual.result c.from_residual.ensures.1 in
    rw (p.1, p.2) (subst (λ (x : SealedView). AcceptsLog g.K.Media c.args.kernel.now x (Err c.in_err-accept.field-0.0) c.accept.new.self) c.log.ensures (record {
      accepted = tt;
      can = tt;
      step = tt;
      region = tt;
      out = e.out;
      not_at_mark = e.not_at_mark;
      already_accepted = e.already_accepted;
      failed = e.failed;
      refused = e.refused;
      area = e.area;
      opening = e.opening;
    }))

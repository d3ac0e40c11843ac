use Rattle.std.proofs.Common.{◌≡◌, Option, refl, ◌∙◌, ap, subst}
use Rattle.kernel_fs.specs.digester.SealedLog.{SealedView}
use Rattle.libfs.specs.SealedRegion.{DigestsChunk, IsKept, SealedRegionView, log_of}
use Rattle.libfs.proofs.SealedRegions.{kept_on, log_is, log_there, only_done}
use Rattle.libfs.proofs.sealed_region.SealedRegion.digest.Goals as goal

pub invariant_of-self : goal.invariant_of-self
invariant_of-self g c =
    let s = c.self.inside in
    let device = g.M.Media in
    let e = c.digest.ensures in
    let kept = subst (λ (o : Option SealedView). IsKept device s.client s.generation s.region s.held.items s.count o s.freed s.accepted) c.in-Some.is c.self.invariant in
    kept_on device s.client s.generation s.region s.held.items s.count s.freed s.accepted _ c.digest.new.log kept (only_done c.in-Some.log c.digest.new.log c.args.chunk.now.count _ _ c.digest.result e.done e.not_digested e.refused)

pub returns-clause-digests : goal.returns-clause-digests
returns-clause-digests g c =
    let s = c.self.inside in
    let device = g.M.Media in
    let e = c.digest.ensures in
    let kept = subst (λ (o : Option SealedView). IsKept device s.client s.generation s.region s.held.items s.count o s.freed s.accepted) c.in-Some.is c.self.invariant in
    let then = kept_on device s.client s.generation s.region s.held.items s.count s.freed s.accepted _ c.digest.new.log kept (only_done c.in-Some.log c.digest.new.log c.args.chunk.now.count _ _ c.digest.result e.done e.not_digested e.refused) in
    let was : c.in-Some.log ≡ log_of device c.args.self.now = log_there device s.client s.generation s.region s.held.items s.count s.freed s.accepted s.log c.in-Some.log c.self.invariant c.in-Some.is ∙ ap (λ (v : SealedRegionView _). log_of device v) c.self.view_is in
    let is = log_is device s.client s.generation s.region s.held.items s.count s.freed s.accepted c.digest.new.log (then.its_log c.digest.new.log refl) in
    subst (λ (y : SealedView). DigestsChunk g.K.Media c.args.kernel.now (log_of device c.args.self.now) c.args.chunk.now c.digest.result y c.digest.new.self) is
    (subst (λ (x : SealedView). DigestsChunk g.K.Media c.args.kernel.now x c.args.chunk.now c.digest.result c.digest.new.log c.digest.new.self) was (record {
      any_moment = e.any_moment;
      next = e.next;
      not_next = e.not_next;
      not_accepted = e.not_accepted;
      not_digested = e.not_digested;
      digested = e.digested;
      done = e.done;
      at_mark = e.at_mark;
      accepted = e.accepted;
      step = e.step;
      law = e.law;
      only_next = e.only_next;
      bad = e.bad;
      never_bad = e.never_bad;
      refused = e.refused;
      answers = e.answers;
      at_most = e.at_most;
      opening = e.opening;
    }))

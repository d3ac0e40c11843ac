use Rattle.std.proofs.Common.{sym, ◌∙◌}
use Rattle.std.proofs.Math.Logic.{∥∥₁_map}
use Rattle.host_media.proofs.Grow.{fence_shows}
use Rattle.host_media.proofs.Covering.{cover_fence}
use Rattle.host_media.proofs.mirror.Mirrored.fence.Goals as goal

pub invariant_of-self : goal.invariant_of-self
invariant_of-self c =
    let m = c.settle.new.self in
    let t = c.args.tier in
    let f = m.host.past.history in
    let h = m.past.history in
    let k = c.then-self.result.history in
    let grown = c.then-self.ensures in
    record {
      shows = λ u. m.shows u ∙ sym (fence_shows h k t grown u);
      mirrors = m.mirrors;
      covered = ∥∥₁_map m.covered (cover_fence f h k t grown (λ d left. m.settled t c.in_ok-settle.ensures.settled d left ∙ m.shows t));
      settled = m.settled;
      fits = m.fits;
      stands = m.stands;
    }

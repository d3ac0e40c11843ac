use Rattle.std.proofs.Common.{◌≡◌, ◌∙◌, true, false, ap, inr, subst, sym}
use Rattle.libfs.specs.SealedRegion.{SealedRegionView, log_of}
use Rattle.event_steps.specs.Regions.{HasAccepted, IsAwayRead, IsNotAcceptedFor, refusal_to_accept}
use Rattle.event_steps.specs.declared.outcome.Refusal.{Refusal}
use Rattle.event_steps.proofs.Chunks.{is_false, not_accepted, read_some, same_done}
use Rattle.event_steps.proofs.log_accept.accept_region.Goals as goal

pub accept-requires-clause-some : goal.accept-requires-clause-some
accept-requires-clause-some g c = read_some g.M.Media c.args.region.now c.read_region.new.region c.read_region.ensures.read c.requires.some

pub returns-in-Ok-clause-accepted : goal.returns-in-Ok-clause-accepted
returns-in-Ok-clause-accepted g c =
    let device = g.M.Media in
    let k = c.args.kernel.now in
    let a = c.args.region.now in
    let mid = c.read_region.new.region in
    let read : IsAwayRead device a mid = c.read_region.ensures.read in
    let unaccepted : a.accepted ≡ false = sym c.is_accepted.ensures.accepted ∙ c.if-is_accepted.false in
    let b : SealedRegionView _ = c.accept.new.self in
    let is : b ≡ record mid { accepted = true } = c.in-Ok.ensures.accepted in
    let e = c.in-Ok.ensures.accepts in
    record {
      accepted = ap (λ (r : SealedRegionView _). r.accepted) is;
      read = ap (λ (r : SealedRegionView _). r.read) is ∙ c.in_ok-read_region.ensures.there;
      came = inr (
        unaccepted,
        subst (λ (r : SealedRegionView _). IsAwayRead device a r) (sym is) (record { read = read.read; rest = ap (λ (r : SealedRegionView _). record r { accepted = true }) read.rest; kept = read.kept }),
        subst (λ (r : SealedRegionView _). HasAccepted device k (log_of device r) c.accept.new.kernel) (sym is) (record {
          none = same_done device a mid read ∙ c.requires.none unaccepted;
          waiting = e.accepted;
          can = e.can;
          step = e.step;
          region = e.region;
          out = e.out;
          going = is_false k.area.failed (λ is. absurd (cc)) e.failed;
          area = e.area;
          opening = e.opening;
        }),
      );
    }

pub returns-in-Err-clause-only : goal.returns-in-Err-clause-only
returns-in-Err-clause-only g c =
    let device = g.M.Media in
    let k = c.args.kernel.now in
    let a = c.args.region.now in
    let mid = c.read_region.new.region in
    let unaccepted : a.accepted ≡ false = sym c.is_accepted.ensures.accepted ∙ c.if-is_accepted.false in
    let none = same_done device a mid c.read_region.ensures.read ∙ c.requires.none unaccepted in
    let e = c.in-Err.ensures.accepts in
    subst (λ (why : Refusal). IsNotAcceptedFor device k a c.accept.new.self why) (sym c.refusal_to_accept.ensures)
    (subst (λ (r : SealedRegionView _). IsNotAcceptedFor device k a r (refusal_to_accept c.in-Err.error)) (sym c.in-Err.ensures.refused)
    (not_accepted device k a mid c.in-Err.error none e.failed e.not_at_mark e.already_accepted))

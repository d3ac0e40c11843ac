use Rattle.std.proofs.Common.{◌≡◌, take, sym, subst}
use Rattle.tier_device.specs.declared.media.Tier.TheVariants.{Fast}
use Rattle.tier_device.specs.StopsSince.{LeftSince}
use Rattle.update_log.specs.Frames.{header, spelled_records, before_gate}
use Rattle.update_log.specs.View.{header_of, records_of}
use Rattle.update_log.proofs.Views.{same_either}
use Rattle.update_log.proofs.region.Region.append.Goals as goal

pub returns-clause-any_moment : goal.returns-clause-any_moment
returns-clause-any_moment g c d since =
    let m = g.M.Media in
    let b = c.begin.ensures in
    let old = c.args.self.now in
    let now = c.begin.new.self in
    let same_header : header_of m now ≡ header_of m old = (λ i. header (take (b.end i) (m.seen (b.media i) Fast))) in
    let same_records : records_of m now ≡ records_of m old = (λ i. spelled_records (before_gate (take (b.end i) (m.seen (b.media i) Fast)))) in
    same_either _ _ _ _ _ _ d same_header same_records c.in_ok-begin.ensures.begun
    (c.finish.ensures.any_moment d (subst (λ x. LeftSince (m.left c.finish.new.self.media) (m.moment c.finish.new.self.media) (m.moment x) Fast d) (sym b.media) since))

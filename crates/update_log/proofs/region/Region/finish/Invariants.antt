use Rattle.std.proofs.Common.{◌≡◌, ◌+◌, List, ℕ}
use Rattle.tier_device.specs.declared.media.Tier.TheVariants.{Fast}
use Rattle.tier_device.specs.StopsSince.{LeftSince}
use Rattle.update_log.specs.Stage.{IsAppending, calls_left}
use Rattle.update_log.specs.View.{WithOrWithout, header_of, records_of, begun_of}
use Rattle.update_log.specs.Moments.{PastStays}
use Rattle.update_log.proofs.region.Region.finish.Given as goal

-- the record is still to be appended, and what was promised held at each moment so far
abbrev pub invariant-calls : goal.invariant-calls
invariant-calls g l =
    let m = g.M.Media in
    record {
      appending : IsAppending l.self.stage;
      any_moment : (c : List ℕ) → LeftSince (m.left l.self.media) (m.moment l.self.media) (m.moment l.fn.self.media) Fast c → WithOrWithout (header_of m l.fn.self) (records_of m l.fn.self) (begun_of l.fn.self) c;
      past : PastStays (m.moment l.fn.self.media) (m.moment l.self.media) (m.left l.fn.self.media) (m.left l.self.media);
      same_header : header_of m l.self ≡ header_of m l.fn.self;
      same_records : records_of m l.self ≡ records_of m l.fn.self;
      same_begun : begun_of l.self ≡ begun_of l.fn.self;
      calls : m.moment l.self.media + calls_left l.self.stage ≡ m.moment l.fn.self.media + calls_left l.fn.self.stage;
      quiet : m.faults l.self.media ≡ m.faults l.fn.self.media;
    }

abbrev pub decreases-calls : goal.decreases-calls
decreases-calls g l = calls_left l.self.stage

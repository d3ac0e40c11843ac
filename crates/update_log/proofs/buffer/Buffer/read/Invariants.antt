use Rattle.std.proofs.Common.{◌≡◌, ◌*◌, take}
use Rattle.tier_device.specs.declared.media.Tier.{Tier}
use Rattle.tier_device.specs.declared.media.Tier.TheVariants.{Fast}
use Rattle.tier_device.specs.Media.{Keeps}
use Rattle.update_log.proofs.buffer.Buffer.read.Given as goal

-- the pieces so far are the front of the tier, and the medium is as it was
abbrev pub invariant-loop-place : goal.invariant-loop-place
invariant-loop-place g l =
    let m = g.M.Media in
    record {
      bytes : l.self ≡ take (l.place * 4096) (m.seen l.fn.media Fast);
      seen : (t : Tier) → m.seen l.media t ≡ m.seen l.fn.media t;
      clock : m.moment l.media ≡ m.moment l.fn.media;
      past : Keeps (m.moment l.fn.media) (m.moment l.media) (m.left l.fn.media) (m.left l.media);
      quiet : m.faults l.media ≡ m.faults l.fn.media;
    }

use Rattle.std.proofs.Common.{◌≡◌, ◌≢◌, ◌-◌, ◌+◌, ◌≤◌}
use Rattle.tier_device.specs.declared.media.Tier.{Tier}
use Rattle.tier_device.specs.declared.media.Tier.TheVariants.{Fast}
use Rattle.batch_journal.specs.Images.{images_of}
use Rattle.batch_journal.specs.Course.{Since, BesideFrom, Doing, SameLengths}
use Rattle.batch_journal.proofs.replay.put_images.Given as goal

abbrev pub invariant-images : goal.invariant-images
invariant-images g l =
    let m = g.M.Media in
    record {
      within : l.place ≤ l.count;
      doing : Doing l.bytes l.place (l.count - l.place) (m.seen l.fn.media Fast) (m.seen l.media Fast);
      course : Since Fast (BesideFrom (m.left l.fn.media (m.moment l.fn.media) Fast) (images_of l.bytes)) (m.moment l.fn.media) (m.moment l.media) (m.left l.fn.media) (m.left l.media);
      others : (t : Tier) → t ≢ Fast → m.seen l.media t ≡ m.seen l.fn.media t;
      lengths : SameLengths (m.seen l.fn.media) (m.seen l.media);
      calls : m.moment l.media ≡ m.moment l.fn.media + l.place;
      faults : m.faults l.fn.media ≤ m.faults l.media;
      quiet : m.faults l.media ≡ m.faults l.fn.media;
    }

abbrev pub decreases-images : goal.decreases-images
decreases-images g l = l.count - l.place

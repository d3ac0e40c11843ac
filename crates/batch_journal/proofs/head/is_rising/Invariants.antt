use Rattle.std.proofs.Common.{◌-◌, ◌≤◌, ◌↔◌}
use Rattle.batch_journal.specs.Images.{images_of, images_from}
use Rattle.batch_journal.specs.Blocks.{RisesJournaled}
use Rattle.batch_journal.proofs.head.is_rising.Given as goal

abbrev pub invariant-places : goal.invariant-places
invariant-places l = record {
  within : l.place ≤ l.count;
  same : RisesJournaled l.geometry l.low (images_from l.bytes l.place (l.count - l.place)) ↔ RisesJournaled l.geometry 0 (images_of l.bytes);
}

abbrev pub decreases-places : goal.decreases-places
decreases-places l = l.count - l.place

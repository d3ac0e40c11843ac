use Rattle.std.proofs.Common.{length, ◌-◌, ◌≤◌}
use Rattle.area_commit.proofs.Blocks.{Low}
use Rattle.area_commit.proofs.slots.count_up_to.Given as goal

abbrev pub invariant-slots : goal.invariant-slots
invariant-slots l = record {
  low : Low l.last l.count l.slots;
  few : l.count ≤ length l.slots;
}

abbrev pub decreases-slots : goal.decreases-slots
decreases-slots l = length l.slots - l.count

use Rattle.area_commit.proofs.Returned.{same_free, free_again, ranges_again}
use Rattle.area_commit.proofs.laws.released_pools_are_as_before.Goals as goal

pub returns : goal.returns
returns c = record {
  same = same_free;
  free = λ g s plan left after ready undone. free_again ready.before left after plan.taken ready.took undone g s ready.free;
  ranges = λ g s plan left after ready undone. ranges_again ready.before left after plan.taken ready.took undone g ready.ranges;
}

use Rattle.std.proofs.Common.{◌+◌, ◌-◌, ◌<◌, ◌≤◌, length}
use Rattle.inode_plan.specs.PlacedFile.{GoOn}
use Rattle.inode_plan.proofs.file_places.run_from.Given as goal

abbrev pub decreases-more : goal.decreases-more
decreases-more l = length l.numbers - (l.first + l.count)

abbrev pub invariant-more : goal.invariant-more
invariant-more l = record {
  run : GoOn l.numbers l.places l.first l.count;
  some : 0 < l.count;
  within : l.first + l.count ≤ length l.numbers;
}

use Rattle.std.proofs.Common.{◌≤◌, ◌-◌, length}
use Rattle.inode_plan.specs.PlacedFile.{NumbersArePlaced}
use Rattle.inode_plan.proofs.file_places.place_blocks.Given as goal

abbrev pub decreases-runs : goal.decreases-runs
decreases-runs l = length l.numbers - l.done

abbrev pub invariant-runs : goal.invariant-runs
invariant-runs l = record {
  placed : NumbersArePlaced l.numbers l.places l.done l.fn.map l.map;
  within : l.done ≤ length l.numbers;
}

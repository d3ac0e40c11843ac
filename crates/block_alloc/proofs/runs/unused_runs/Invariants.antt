use Rattle.std.proofs.Common.{◌≡◌, ◌≤◌, ◌+◌, ◌-◌, ◌++◌, length, drop}
use Rattle.std.specs.List.{range_with_len}
use Rattle.block_alloc.specs.Runs.{blocks_of, unmarked_blocks, AreNormalRuns, EndsBefore}
use Rattle.block_alloc.proofs.runs.unused_runs.Given as goal

abbrev pub invariant-marks : goal.invariant-marks
invariant-marks l = record {
  open_run : l.count ≤ l.place;
  blocks : blocks_of l.runs.items ++ range_with_len (l.first + l.place - l.count) l.count ++ unmarked_blocks (l.first + l.place) (drop l.place l.used) ≡ unmarked_blocks l.first l.used;
  normal : AreNormalRuns l.first (l.first + length l.used) l.runs.items;
  before : EndsBefore (l.first + l.place - l.count) l.runs.items;
}

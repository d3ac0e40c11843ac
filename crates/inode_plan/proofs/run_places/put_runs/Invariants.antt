use Rattle.std.proofs.Common.{◌≡◌, ◌+◌, length, take}
use Rattle.block_alloc.specs.Runs.{blocks_of}
use Rattle.inode_plan.specs.RunPlaces.{ArePlaced}
use Rattle.inode_plan.proofs.run_places.put_runs.Given as goal

-- the blocks of the first runs are put
abbrev pub invariant-runs : goal.invariant-runs
invariant-runs l = record {
  next_is : l.next ≡ l.first + length (blocks_of (take l.place l.runs));
  placed : ArePlaced l.first l.tier (blocks_of (take l.place l.runs)) l.fn.map l.map;
}

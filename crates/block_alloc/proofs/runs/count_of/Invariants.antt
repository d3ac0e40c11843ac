use Rattle.std.proofs.Common.{◌≡◌, length, take}
use Rattle.block_alloc.specs.Runs.{blocks_of}
use Rattle.block_alloc.proofs.runs.count_of.Given as goal

abbrev pub invariant-runs : goal.invariant-runs
invariant-runs l = l.count ≡ length (blocks_of (take l.place l.runs))

use Rattle.std.proofs.Common.{◌≡◌, ◌*◌, length, take}
use Rattle.block_alloc.specs.Runs.{blocks_of}
use Rattle.area_commit.proofs.data_write.bytes_of.Given as goal

abbrev pub invariant-runs : goal.invariant-runs
invariant-runs l = l.bytes ≡ 4096 * length (blocks_of (take l.place l.runs))

use Rattle.std.proofs.Common.{length, ◌-◌}
use Rattle.block_alloc.specs.Value.{InOrder}
use Rattle.area_commit.proofs.Fronts.{Ready}
use Rattle.area_commit.proofs.allocation.give_runs.Given as goal

-- the last runs stand before the free blocks again
abbrev pub invariant-runs : goal.invariant-runs
invariant-runs l = record { ready : Ready l.fn.pool l.pool l.runs (length l.runs - l.place); ordered : InOrder l.pool }

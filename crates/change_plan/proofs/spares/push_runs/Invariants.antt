use Rattle.std.proofs.Common.{◌≡◌, ◌++◌, take}
use Rattle.block_alloc.specs.Runs.{blocks_of}
use Rattle.change_plan.proofs.spares.push_runs.Given as goal

abbrev pub invariant-runs : goal.invariant-runs
invariant-runs l = l.out.items ≡ l.fn.out.items ++ blocks_of (take l.index l.runs)

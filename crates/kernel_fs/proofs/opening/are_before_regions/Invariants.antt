use Rattle.std.proofs.Common.{◌≡◌, ◌≤◌, ◌<◌, ℕ}
use Rattle.kernel_fs.specs.MachineState.{done_in}
use Rattle.kernel_fs.proofs.opening.are_before_regions.Given as goal

abbrev pub invariant-clients : goal.invariant-clients
invariant-clients l = (c : ℕ) → 1 ≤ c → c < l.client → done_in l.marks c ≡ 0

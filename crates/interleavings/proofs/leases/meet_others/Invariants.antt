use Rattle.std.proofs.Common.{◌≡◌, ℕ, ◌<◌, ◌≤◌}
use Rattle.system_laws.specs.Leaves.{HaveMet}
use Rattle.interleavings.proofs.leases.meet_others.Given as goal

abbrev pub invariant-others : goal.invariant-others
invariant-others g l = record {
  same : l.system ≡ l.fn.system;
  above : (d : ℕ) → 1 ≤ d → d < l.other → l.client < d → HaveMet l.fn.system l.client d;
  below : (d : ℕ) → 1 ≤ d → d < l.other → d < l.client → HaveMet l.fn.system d l.client;
}

use Rattle.std.proofs.Common.{◌≡◌, ℕ, ◌<◌, ◌≤◌}
use Rattle.system_laws.specs.event_steps.Sound.{number_of}
use Rattle.system_laws.specs.event_steps.Stops.{SeatLeaves}
use Rattle.system_laws.specs.event_steps.View.{HasSeat}
use Rattle.system_laws.specs.Leaves.{HoldsRecords}
use Rattle.interleavings.proofs.stops.left_now.Given as goal

abbrev pub invariant-clients : goal.invariant-clients
invariant-clients g l = record {
  leaves : (d : ℕ) → 1 ≤ d → d < l.number → HasSeat l.fn.system d (SeatLeaves g.M.Media);
  whose : (d : ℕ) → 1 ≤ d → d < l.number → HasSeat l.fn.system d (λ s. number_of s ≡ d);
  holds : (d : ℕ) → 1 ≤ d → d < l.number → HasSeat l.fn.system d (λ s. HoldsRecords g.M.Media s.client);
}

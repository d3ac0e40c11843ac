use Rattle.std.proofs.Common.{◌≡◌, ◌↔◌, ◌+◌, drop}
use Rattle.event_steps.specs.Sound.{AreFrom}
use Rattle.event_steps.proofs.system.are_numbered.Given as goal

abbrev pub invariant-seats : goal.invariant-seats
invariant-seats g l = record {
  counted : l.number ≡ l.seat-index + 1;
  rest : AreFrom l.number (drop l.seat-index l.seats) ↔ AreFrom 1 l.seats;
}

use Rattle.client_view.proofs.Tables.{AreUnknown}
use Rattle.client_view.proofs.slots.unknown_slots.Given as goal

abbrev pub invariant-loop : goal.invariant-loop
invariant-loop l = AreUnknown l.slots.items l.counter

use Rattle.std.proofs.Common.{◌≡◌, replicate}
use Rattle.lease_manager.proofs.table.Leases.handles.Given as goal

abbrev pub invariant-loop : goal.invariant-loop
invariant-loop l = l.handles.items ≡ replicate l.counter l.self

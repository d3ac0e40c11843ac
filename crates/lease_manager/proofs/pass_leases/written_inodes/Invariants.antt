use Rattle.std.proofs.Common.{◌≡◌}
use Rattle.lease_manager.specs.PassLeases.{written_up_to}
use Rattle.lease_manager.proofs.pass_leases.written_inodes.Given as goal

abbrev pub invariant-loop-before : goal.invariant-loop-before
invariant-loop-before l = l.held.items ≡ written_up_to l.pass l.before

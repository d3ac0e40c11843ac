use Rattle.std.proofs.Common.{◌≡◌}
use Rattle.lease_manager.specs.PassLeases.{given_up_to}
use Rattle.lease_manager.proofs.lease_return.give_all.Given as goal

abbrev pub invariant-loop-before : goal.invariant-loop-before
invariant-loop-before l = l.pass ≡ given_up_to l.fn.pass l.before

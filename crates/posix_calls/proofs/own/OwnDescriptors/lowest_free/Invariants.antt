use Rattle.std.proofs.Common.{◌≡◌, ◌-◌}
use Rattle.posix_calls.specs.Decide.{lowest_free}
use Rattle.posix_calls.specs.Own.{own_of}
use Rattle.posix_calls.proofs.own.OwnDescriptors.lowest_free.Given as goal

abbrev pub invariant-loop-number : goal.invariant-loop-number
invariant-loop-number l = lowest_free (own_of l.self) 0 32 ≡ lowest_free (own_of l.self) l.number (32 - l.number)

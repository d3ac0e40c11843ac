use Rattle.strata_threads.specs.ClientCalls.{KeepsCall}
use Rattle.strata_threads.specs.LeaseReturn.{HasOnlyGiven}
use Rattle.strata_threads.proofs.LeaseReturn.{HasNoneUpTo}
use Rattle.strata_threads.proofs.idle_turn.give_inodes.Given as goal

abbrev pub invariant-loop-before : goal.invariant-loop-before
invariant-loop-before g l = record {
  given : HasOnlyGiven l.fn.client l.client;
  none : HasNoneUpTo l.before l.client;
  kept : KeepsCall l.fn.client l.client;
}

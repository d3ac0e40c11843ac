use Rattle.strata_threads.specs.ClientCalls.{KeepsCall}
use Rattle.strata_threads.specs.HeardQuestions.{HasHeardRows}
use Rattle.strata_threads.specs.LeaseReturn.{TakesNoLease}
use Rattle.strata_threads.proofs.idle_turn.hear.Given as goal

abbrev pub invariant-loop-row : goal.invariant-loop-row
invariant-loop-row g l = record {
  heard : HasHeardRows l.row l.fn.client l.fn.asked l.client l.asked;
  leases : TakesNoLease l.fn.client l.client;
  kept : KeepsCall l.fn.client l.client;
}

use Rattle.strata_threads.specs.ClientCalls.{KeepsCall}
use Rattle.strata_threads.specs.HeardQuestions.{HasGivenAsked}
use Rattle.strata_threads.specs.LeaseReturn.{HasOnlyGiven}
use Rattle.strata_threads.proofs.Questions.{AreGivenOrAskedBelow, AreHeldBelow}
use Rattle.strata_threads.proofs.idle_turn.give_bits.Given as goal

abbrev pub invariant-loop-bit : goal.invariant-loop-bit
invariant-loop-bit g l = record {
  answered : AreGivenOrAskedBelow l.bit l.client l.row l.bits l.left;
  only : AreHeldBelow l.bit l.client l.row l.bits l.left;
  unasked : HasGivenAsked l.row l.bits l.fn.client l.client;
  given : HasOnlyGiven l.fn.client l.client;
  kept : KeepsCall l.fn.client l.client;
}

use Rattle.strata_threads.specs.HeardQuestions.{NeedsRows}
use Rattle.strata_threads.proofs.Questions.{HoldsWithinUpTo}
use Rattle.strata_threads.proofs.idle_turn.held_rows.Given as goal

abbrev pub invariant-loop-before : goal.invariant-loop-before
invariant-loop-before g l = record {
  within : HoldsWithinUpTo l.before l.rows l.client;
  least : NeedsRows l.rows l.client;
}

use Rattle.std.specs.Prelude.{◌≡◌}
use Rattle.strata_threads.specs.ClientCalls.{KeepsCall}
use Rattle.strata_threads.specs.HolderQuestions.{with_questions}
use Rattle.strata_threads.specs.LeaseReturn.{KeepsLeases}
use Rattle.strata_threads.proofs.lease_requests.ask_others.Given as goal

abbrev pub invariant-loop-place : goal.invariant-loop-place
invariant-loop-place g l = record {
  asked : l.client ≡ with_questions l.place l.fn.client l.inode l.word;
  kept : KeepsCall l.fn.client l.client;
  leases : KeepsLeases l.fn.client l.client;
}

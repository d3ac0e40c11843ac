use Rattle.std.proofs.Common.{◌≡◌, ◌≤◌, ◌+◌, true}
use Rattle.libfs.specs.View.{is_pending}
use Rattle.libfs.specs.update_log.Stage.{calls_left}
use Rattle.strata_threads.specs.ClientCalls.{owner_of}
use Rattle.strata_threads.specs.LeaseReturn.{KeepsLeases}
use Rattle.strata_threads.proofs.last_calls.finish_or_die.Given as goal

abbrev pub invariant-loop-step : goal.invariant-loop-step
invariant-loop-step g l = record {
  pending : is_pending l.client ≡ true;
  begun : l.client.begun ≡ l.fn.client.begun;
  owner : owner_of l.client ≡ owner_of l.fn.client;
  leases : KeepsLeases l.fn.client l.client;
  counted : l.left + l.step ≡ l.fn.left;
  stage : calls_left l.client.log.current.stage + l.step ≡ 4;
  more : 1 ≤ calls_left l.client.log.current.stage;
}

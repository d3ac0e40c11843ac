use Rattle.std.proofs.Common.{◌≡◌, true}
use Rattle.libfs.specs.View.{is_pending}
use Rattle.strata_threads.specs.ClientCalls.{owner_of}
use Rattle.strata_threads.specs.LeaseReturn.{KeepsLeases}
use Rattle.strata_threads.proofs.call_turns.finish.Given as goal

abbrev pub invariant-loop-step : goal.invariant-loop-step
invariant-loop-step g l = (is_pending l.client ≡ true) × (l.client.begun ≡ l.fn.client.begun) × (owner_of l.client ≡ owner_of l.fn.client) × KeepsLeases l.fn.client l.client

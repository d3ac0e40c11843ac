use Rattle.std.proofs.Common.{◌≡◌, ◌≤◌, ◌+◌, false}
use Rattle.strata_threads.specs.ClientDeath.{HasWipedLast}
use Rattle.strata_threads.specs.RegionWipe.{clock_of}
use Rattle.strata_threads.proofs.last_calls.wipe_or_die.Given as goal

abbrev pub invariant-loop-step : goal.invariant-loop-step
invariant-loop-step g l = record {
  rest : l.client ≡ record l.fn.client { log = l.client.log };
  wiped : l.left ≡ 0 → HasWipedLast g.M.Media l.client;
  counted : l.client.log.failed ≡ false → clock_of g.M.Media l.client.log + l.left ≡ clock_of g.M.Media l.fn.client.log + l.fn.left;
  fewer : l.left ≤ l.fn.left;
}

use Rattle.std.proofs.Common.{◌≡◌, ◌≤◌}
use Rattle.strata_threads.specs.ClientCalls.{owner_of}
use Rattle.strata_threads.specs.ClientDeath.{HasWipedLast}
use Rattle.strata_threads.proofs.thread_client.ThreadClient.posix_or_die.Given as goal

abbrev pub invariant-loop-turn : goal.invariant-loop-turn
invariant-loop-turn g l = record {
  owner : owner_of l.waiting.client ≡ owner_of l.fn.self.client;
  given : l.waiting.waited.turns ≡ l.turns;
  wiped : l.left ≡ 0 → HasWipedLast g.M.Media l.waiting.client;
  fewer : l.left ≤ l.fn.left;
}

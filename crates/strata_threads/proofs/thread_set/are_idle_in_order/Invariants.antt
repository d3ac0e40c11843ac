use Rattle.std.proofs.Common.{◌≡◌, ◌↔◌, ◌+◌, drop}
use Rattle.strata_threads.specs.SharedClients.{AreIdleFrom}
use Rattle.strata_threads.proofs.thread_set.are_idle_in_order.Given as goal

abbrev pub invariant-clients : goal.invariant-clients
invariant-clients g l = record {
  counted : l.number ≡ l.client-index + 1;
  rest : AreIdleFrom l.number (drop l.client-index l.clients) ↔ AreIdleFrom 1 l.clients;
}

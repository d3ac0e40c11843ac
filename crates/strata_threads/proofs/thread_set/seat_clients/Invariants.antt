use Rattle.std.proofs.Common.{◌≡◌, ◌≤◌, ◌+◌, ◌++◌, length, map}
use Rattle.std.specs.Vec.{vec_len, vec_capacity}
use Rattle.std.specs.Vec.Iter.{into_iter_items, into_iter_len}
use Rattle.strata_threads.specs.SharedClients.{AreIdleFrom}
use Rattle.strata_threads.proofs.thread_set.seat_clients.Given as goal

abbrev pub invariant-loop-client : goal.invariant-loop-client
invariant-loop-client g l = record {
  split : l.yielded ++ into_iter_items l.client-iterator ≡ l.fn.clients.items;
  long : into_iter_len l.client-iterator ≡ length (into_iter_items l.client-iterator);
  enough : into_iter_len l.client-iterator ≤ vec_len l.pairs;
  room : vec_len l.seated + into_iter_len l.client-iterator ≤ vec_capacity l.seated;
  idle : AreIdleFrom (length l.yielded + 1) (into_iter_items l.client-iterator);
  put : map (λ c. c.client) l.seated.items ≡ l.yielded;
}

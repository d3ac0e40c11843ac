use Rattle.std.proofs.Common.{◌≡◌, ◌≤◌, ◌+◌}
use Rattle.std.specs.Vec.{vec_len, vec_capacity}
use Rattle.std.specs.Vec.Iter.{into_iter_items, into_iter_len}
use Rattle.thread_runs.proofs.SharedTable.{AllShareTable}
use Rattle.thread_runs.proofs.file_system.clients_of.Given as goal

abbrev pub invariant-loop-seat : goal.invariant-loop-seat
invariant-loop-seat l = record {
  table : AllShareTable (into_iter_items l.seat-iterator) l.clients.items;
  count : vec_len l.clients + into_iter_len l.seat-iterator ≡ 8;
  room : vec_len l.clients + into_iter_len l.seat-iterator ≤ vec_capacity l.clients;
}

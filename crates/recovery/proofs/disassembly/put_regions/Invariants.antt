use Rattle.std.proofs.Common.{◌≡◌, ◌≤◌, ◌+◌, ◌*◌, ◌++◌, length}
use Rattle.std.specs.Vec.{vec_len, vec_capacity}
use Rattle.std.specs.Vec.Iter.{into_iter_items, into_iter_len}
use Rattle.recovery.specs.SeatRegions.{regions_of_seats}
use Rattle.recovery.proofs.disassembly.put_regions.Given as goal

abbrev pub invariant-loop-seat : goal.invariant-loop-seat
invariant-loop-seat g l = record {
  split : l.yielded ++ into_iter_items l.seat-iterator ≡ l.fn.seats.items;
  long : into_iter_len l.seat-iterator ≡ length (into_iter_items l.seat-iterator);
  room : vec_len l.regions + 2 * into_iter_len l.seat-iterator ≤ vec_capacity l.regions;
  put : l.regions.items ≡ l.fn.regions.items ++ regions_of_seats l.yielded;
}

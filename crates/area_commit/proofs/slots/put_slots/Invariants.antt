use Rattle.std.proofs.Common.{◌≡◌, length, drop}
use Rattle.area_commit.specs.Slots.{with_slots}
use Rattle.area_commit.proofs.slots.put_slots.Given as goal

abbrev pub invariant-slots : goal.invariant-slots
invariant-slots l = record {
  put : with_slots l.block (drop l.at l.slots) l.bytes ≡ with_slots l.block l.slots l.fn.bytes;
  long : length l.bytes ≡ 4096;
}

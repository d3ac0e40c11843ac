use Rattle.std.proofs.Common.{◌≡◌, ◌≤◌, length, take}
use Rattle.fuse_wire.specs.Replies.{dirents_bytes}
use Rattle.fuse_wire.proofs.dirents.count_fitting.Given as goal

abbrev pub invariant-loop-count : goal.invariant-loop-count
invariant-loop-count l = record {
  used : l.used ≡ length (dirents_bytes (take l.count l.entries));
  fits : l.used ≤ l.size;
}

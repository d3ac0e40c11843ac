use Rattle.std.proofs.Common.{◌≡◌, ◌≤◌, ◌+◌, ◌++◌, length, take, vec_len, vec_capacity}
use Rattle.fuse_wire.specs.Replies.{dirents_bytes}
use Rattle.fuse_wire.proofs.dirents.push_dirents.Given as goal

abbrev pub invariant-loop-entry : goal.invariant-loop-entry
invariant-loop-entry l = record {
  written : l.out.items ≡ l.fn.out.items ++ dirents_bytes (take l.entry-index l.entries);
  len : vec_len l.out ≡ vec_len l.fn.out + length (dirents_bytes (take l.entry-index l.entries));
  capacity : vec_capacity l.fn.out ≤ vec_capacity l.out;
}

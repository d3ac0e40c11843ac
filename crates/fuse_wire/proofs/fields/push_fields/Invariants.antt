use Rattle.std.proofs.Common.{◌≡◌, ◌≤◌, ◌+◌, ◌*◌, ◌++◌, take, vec_len, vec_capacity}
use Rattle.fuse_wire.specs.Fields.{fields_bytes}
use Rattle.fuse_wire.proofs.fields.push_fields.Given as goal

abbrev pub invariant-loop-field : goal.invariant-loop-field
invariant-loop-field l = record {
  written : l.out.items ≡ l.fn.out.items ++ fields_bytes (take l.field-index l.fields);
  short : vec_len l.out ≤ vec_len l.fn.out + 8 * l.field-index;
  capacity : vec_capacity l.fn.out ≤ vec_capacity l.out;
}

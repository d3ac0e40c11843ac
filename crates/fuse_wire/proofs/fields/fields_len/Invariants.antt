use Rattle.std.proofs.Common.{◌≡◌, ◌≤◌, ◌*◌, length, take}
use Rattle.fuse_wire.specs.Fields.{fields_bytes}
use Rattle.fuse_wire.proofs.fields.fields_len.Given as goal

abbrev pub invariant-loop-field : goal.invariant-loop-field
invariant-loop-field l = record {
  len : l.len ≡ length (fields_bytes (take l.field-index l.fields));
  short : l.len ≤ 8 * l.field-index;
}

use Rattle.std.proofs.Common.{◌≡◌, ◌++◌, ◌∙◌, refl}
use Rattle.fuse_wire.specs.Fields.{fields_bytes}
use Rattle.fuse_wire.specs.Replies.{attr_bytes, valid_fields}
use Rattle.fuse_wire.proofs.ReplyParts.{two_parts, renamed}
use Rattle.fuse_wire.proofs.reply_writes.write_attr.Goals as goal

pub returns-clause-written : goal.returns-clause-written
returns-clause-written c =
    let joined : fields_bytes c.valid_fields.result ++ fields_bytes c.attr_fields.result ≡ fields_bytes (valid_fields c.args.valid) ++ attr_bytes c.args.attr.now = rw (c.valid_fields.ensures, c.attr_fields.ensures) refl in
    renamed c.write_parts.result c.args.unique _ _ _ (two_parts (fields_bytes c.valid_fields.result) (fields_bytes c.attr_fields.result) ∙ joined) c.write_parts.ensures.written

use Rattle.std.proofs.Common.{◌≡◌, ◌++◌, refl}
use Rattle.fuse_wire.specs.Fields.{fields_bytes}
use Rattle.fuse_wire.specs.Replies.{entry_bytes, open_fields}
use Rattle.fuse_wire.proofs.ReplyParts.{renamed}
use Rattle.fuse_wire.proofs.reply_writes.write_create.Goals as goal

pub returns-clause-written : goal.returns-clause-written
returns-clause-written c =
    let joined : (fields_bytes c.entry_fields.result ++ fields_bytes c.attr_fields.result) ++ fields_bytes c.open_fields.result ≡ entry_bytes c.args.entry.now ++ fields_bytes (open_fields c.args.file.now) = rw (c.entry_fields.ensures, c.attr_fields.ensures, c.open_fields.ensures) refl in
    renamed c.write_parts.result c.args.unique _ _ _ joined c.write_parts.ensures.written

use Rattle.std.proofs.Common.{◌≡◌, ◌++◌, ◌∙◌, refl}
use Rattle.fuse_wire.specs.Fields.{fields_bytes}
use Rattle.fuse_wire.specs.Replies.{entry_bytes}
use Rattle.fuse_wire.proofs.ReplyParts.{two_parts, renamed}
use Rattle.fuse_wire.proofs.reply_writes.write_entry.Goals as goal

pub returns-clause-written : goal.returns-clause-written
returns-clause-written c =
    let joined : fields_bytes c.entry_fields.result ++ fields_bytes c.attr_fields.result ≡ entry_bytes c.args.entry.now = rw (c.entry_fields.ensures, c.attr_fields.ensures) refl in
    renamed c.write_parts.result c.args.unique _ _ _ (two_parts (fields_bytes c.entry_fields.result) (fields_bytes c.attr_fields.result) ∙ joined) c.write_parts.ensures.written

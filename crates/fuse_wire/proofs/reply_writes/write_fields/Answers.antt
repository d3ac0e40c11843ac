use Rattle.fuse_wire.specs.Fields.{fields_bytes}
use Rattle.fuse_wire.proofs.ReplyParts.{one_part, renamed}
use Rattle.fuse_wire.proofs.reply_writes.write_fields.Goals as goal

pub returns-clause-written : goal.returns-clause-written
returns-clause-written c = renamed c.write_parts.result c.args.unique _ _ _ (one_part (fields_bytes c.args.fields.now)) c.write_parts.ensures.written

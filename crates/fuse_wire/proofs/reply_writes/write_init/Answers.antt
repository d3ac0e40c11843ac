use Rattle.std.proofs.Common.{ap}
use Rattle.fuse_wire.specs.Fields.{fields_bytes}
use Rattle.fuse_wire.proofs.ReplyParts.{renamed}
use Rattle.fuse_wire.proofs.reply_writes.write_init.Goals as goal

pub returns-clause-written : goal.returns-clause-written
returns-clause-written c = renamed c.write_fields.result c.args.unique _ _ _ (ap fields_bytes c.init_fields.ensures) c.write_fields.ensures.written

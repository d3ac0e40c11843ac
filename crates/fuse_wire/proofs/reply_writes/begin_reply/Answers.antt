use Rattle.std.proofs.Common.{◌+◌}
use Rattle.fuse_wire.proofs.ReplyParts.{begun}
use Rattle.fuse_wire.proofs.reply_writes.begin_reply.Goals as goal

pub returns-clause-written : goal.returns-clause-written
returns-clause-written c = begun (16 + c.args.len) c.args.error c.args.unique _ _ _ _ c.push_u32.ensures.written c.push_u32-2.ensures.written c.push_u64.ensures.written (cc)

use Rattle.std.proofs.Common.{arith}
use Rattle.fuse_wire.specs.Errno.{refusal_number}
use Rattle.fuse_wire.proofs.ReplyParts.{renamed_error}
use Rattle.fuse_wire.proofs.reply_writes.write_error.Goals as goal

pub returns-clause-written : goal.returns-clause-written
returns-clause-written c = renamed_error c.begin_reply.result c.args.unique (refusal_number c.args.refusal) _ _ (omega (arith, c.number.ensures.number)) c.begin_reply.ensures.written

use Rattle.std.proofs.Common.{arith, ◌+◌}
use Rattle.std.proofs.lemmas.Bool.{false≢true}
use Rattle.fuse_wire.specs.Fields.{fields_bytes}
use Rattle.fuse_wire.proofs.ReplyParts.{all_parts}
use Rattle.fuse_wire.proofs.reply_writes.write_parts.Goals as goal

pub returns-clause-written : goal.returns-clause-written
returns-clause-written c =
    all_parts c.args.unique (c.fields_len.result + c.fields_len-2.result + c.fields_len-3.result) (fields_bytes c.args.front.now) (fields_bytes c.args.middle.now) (fields_bytes c.args.back.now) _ _ _ _
    (omega (arith, c.fields_len.ensures.len, c.fields_len-2.ensures.len, c.fields_len-3.ensures.len)) c.in_ok-begin_reply.ensures.written c.push_fields.ensures.written c.push_fields-2.ensures.written c.push_fields-3.ensures.written

pub returns-in_err-begin_reply-clause-room : goal.returns-in_err-begin_reply-clause-room
returns-in_err-begin_reply-clause-room c = λ enough. absurd (false≢true (c.in_err-begin_reply.ensures.room (omega (arith, enough))))

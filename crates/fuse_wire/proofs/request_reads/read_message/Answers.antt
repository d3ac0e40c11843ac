use Rattle.std.proofs.lemmas.Result.{err_from_is_err_and}
use Rattle.fuse_wire.proofs.ZeroBytes.{whole_rest}
use Rattle.fuse_wire.proofs.Messages.{message_is_wrong, message_is_spelled}
use Rattle.fuse_wire.proofs.request_reads.read_message.Goals as goal

pub returns-in_err-check_body-clause-reason : goal.returns-in_err-check_body-clause-reason
returns-in_err-check_body-clause-reason c =
    let p = err_from_is_err_and c.from_residual-in_err-check_body.result c.from_residual-in_err-check_body.ensures.1 in
    let head = c.in_ok-header.ensures in
    let wrong = message_is_wrong c.args.bytes.now c.in_ok-header.header c.opcode_of-opcode.result c.body_of.result _ c.in_err-check_body.field-0.0 head.whole head.header c.opcode_of-opcode.ensures c.body_of.ensures.body (whole_rest 40 c.args.bytes.now) c.in_err-check_body.ensures.wrong in
    rw (p.1, p.2) wrong

pub returns-clause-spelled : goal.returns-clause-spelled
returns-clause-spelled c = message_is_spelled c.args.bytes.now c.in_ok-header.header c.opcode_of-opcode.result _ c.read_body.result c.in_ok-header.ensures.whole c.in_ok-header.ensures.header c.opcode_of-opcode.ensures (whole_rest 40 c.args.bytes.now) c.read_body.ensures

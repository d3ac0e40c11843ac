use Rattle.fuse_wire.proofs.Messages.{is_found, is_refused}
use Rattle.fuse_wire.proofs.request_reads.read_request.Goals as goal

pub returns-clause-found : goal.returns-clause-found
returns-clause-found c = is_found c.args.bytes.now c.read_message.result c.read_message.ensures.reason

pub returns-clause-refused : goal.returns-clause-refused
returns-clause-refused c = is_refused c.args.bytes.now c.read_message.result c.read_message.ensures.spelled c.read_message.ensures.reason

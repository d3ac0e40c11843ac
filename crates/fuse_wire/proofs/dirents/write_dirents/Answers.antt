use Rattle.std.proofs.Common.{take}
use Rattle.fuse_wire.specs.Replies.{dirents_bytes}
use Rattle.fuse_wire.proofs.ReplyParts.{with_body}
use Rattle.fuse_wire.proofs.dirents.write_dirents.Goals as goal

pub returns-clause-written : goal.returns-clause-written
returns-clause-written c =
    let count = c.count_fitting-count.result in
    with_body c.args.unique count.1 (dirents_bytes (take count.0 c.args.entries.now)) _ _ c.count_fitting-count.ensures.len c.in_ok-begin_reply.ensures.written c.push_dirents.ensures

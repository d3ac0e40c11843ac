use Rattle.fuse_wire.proofs.DirentLengths.{fields_written}
use Rattle.fuse_wire.proofs.dirents.push_dirent_fields.Goals as goal

pub returns-clause-written : goal.returns-clause-written
returns-clause-written c = fields_written c.args.entry.now c.kind_number.result _ _ _ _ _ c.kind_number.ensures c.push_u64.ensures.written c.push_u64-2.ensures.written c.push_u32.ensures.written c.push_u32-2.ensures.written

use Rattle.std.proofs.Common.{refl}
use Rattle.fuse_wire.proofs.Bodies.{ends_at_fields}
use Rattle.fuse_wire.proofs.request_reads.read_setattr.Goals as goal

pub returns : goal.returns
returns c = (refl, ends_at_fields 88 c.args.body.now c.requires, c.read_changes.ensures)

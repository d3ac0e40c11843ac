use Rattle.std.proofs.Common.{refl}
use Rattle.fuse_wire.proofs.Bodies.{ends_at_fields}
use Rattle.fuse_wire.proofs.request_reads.read_readdir.Goals as goal

pub returns : goal.returns
returns c = (refl, ends_at_fields 40 c.args.body.now c.requires, c.u64_at.ensures, c.u64_at-2.ensures, c.u32_at.ensures)

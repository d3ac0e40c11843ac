use Rattle.std.proofs.Common.{refl, arith}
use Rattle.fuse_wire.proofs.ZeroBytes.{whole_rest}
use Rattle.fuse_wire.proofs.request_reads.read_write.Goals as goal

pub returns : goal.returns
returns c = (refl, omega (arith, c.requires.1), c.u64_at.ensures, c.u64_at-2.ensures, c.u32_at.ensures, whole_rest 40 c.args.body.now)

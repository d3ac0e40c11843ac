use Rattle.std.proofs.Common.{arith}
use Rattle.fuse_wire.proofs.ZeroBytes.{ends_by}
use Rattle.fuse_wire.proofs.names.trim_name.Goals as goal

pub returns : goal.returns
returns c = ends_by c.args.bytes.now _ c.requires (grind arith)

use Rattle.std.proofs.Common.{rules}
use Rattle.world_files.proofs.read_at.DiskFileReadAt.read_at.Goals as goal

pub returns : goal.returns
returns c = let read = c.in_ok-read.ensures in (search rules, (c.in_ok-read.field-0, read.place, read.bytes))

use Rattle.std.proofs.Common.{length}
use Rattle.script.proofs.lines.write_more.Given as goal

abbrev pub decreases-loop-byte : goal.decreases-loop-byte
decreases-loop-byte g l = length l.rest

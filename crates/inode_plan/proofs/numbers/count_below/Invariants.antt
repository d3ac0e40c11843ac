use Rattle.std.proofs.Common.{ℕ, ◌<◌, get_or}
use Rattle.inode_plan.proofs.numbers.count_below.Given as goal

abbrev pub invariant-each : goal.invariant-each
invariant-each l = (k : ℕ) → k < l.index → get_or l.numbers k 0 < l.number

use Rattle.std.proofs.Common.{◌≡◌, length}
use Rattle.strata_threads.proofs.thread_set.open_workers.Given as goal

abbrev pub invariant-loop-before : goal.invariant-loop-before
invariant-loop-before g l = length l.workers.items ≡ l.before

use Rattle.std.proofs.Common.{◌≡◌}
use Rattle.strata_threads.proofs.worker.send.Given as goal

abbrev pub invariant-loop-round : goal.invariant-loop-round
invariant-loop-round g l = (l.left ≡ l.fn.region) × (l.queue.queue ≡ l.fn.queue.queue) × (l.queue.hands ≡ l.fn.queue.hands)

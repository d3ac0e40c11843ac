use Rattle.std.proofs.Common.{◌≡◌}
use Rattle.strata_threads.specs.ClientCalls.{KeepsCall}
use Rattle.strata_threads.proofs.thread_client.ThreadClient.clear_log.Given as goal

abbrev pub invariant-loop-round : goal.invariant-loop-round
invariant-loop-round g l = KeepsCall l.fn.self.client l.self.client × (l.self.waited ≡ l.fn.self.waited)

use Rattle.std.proofs.Common.{◌≡◌}
use Rattle.strata_threads.specs.ClientCalls.{KeepsCall}
use Rattle.strata_threads.specs.LeaseReturn.{KeepsLeases}
use Rattle.strata_threads.proofs.thread_remains.ThreadRemains.clear_log.Given as goal

abbrev pub invariant-loop-round : goal.invariant-loop-round
invariant-loop-round g l = record {
  kept : KeepsCall l.fn.self.remains.client l.self.remains.client;
  leases : KeepsLeases l.fn.self.remains.client l.self.remains.client;
  life : l.self.remains.life ≡ l.fn.self.remains.life;
}

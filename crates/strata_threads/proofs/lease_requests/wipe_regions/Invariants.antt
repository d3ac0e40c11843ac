use Rattle.std.proofs.Common.{◌≡◌}
use Rattle.strata_threads.specs.ClientCalls.{KeepsCall}
use Rattle.strata_threads.specs.LeaseReturn.{KeepsLeases}
use Rattle.strata_threads.proofs.lease_requests.wipe_regions.Given as goal

abbrev pub invariant-loop-step : goal.invariant-loop-step
invariant-loop-step g l = (l.client ≡ record l.fn.client { log = l.client.log }) × KeepsCall l.fn.client l.client × KeepsLeases l.fn.client l.client

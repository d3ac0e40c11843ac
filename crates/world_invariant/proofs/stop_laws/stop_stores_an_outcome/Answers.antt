use Rattle.posix_calls.proofs.Steps.{run_joined}
use Rattle.world_invariant.specs.World.{world_state}
use Rattle.world_invariant.proofs.Stops.{stop_stores}
use Rattle.world_invariant.proofs.stop_laws.stop_stores_an_outcome.Goals as goal

pub returns-clause-stores : goal.returns-clause-stores
returns-clause-stores c = stop_stores

pub returns-clause-outcome : goal.returns-clause-outcome
returns-clause-outcome c = λ w logs opening acknowledged h leaves run. let out = (stop_stores w logs h leaves).outcome in record {
  more = out.more;
  last = out.last;
  some_of = out.some_of;
  run = run_joined acknowledged out.more opening (world_state w) out.last run out.run;
  settled = out.settled;
}

use Rattle.world_invariant.proofs.BrokenRegions.{begun_there, begun_written}
use Rattle.world_invariant.proofs.AloneRegions.{begun_alone}
use Rattle.world_invariant.proofs.broken_laws.call_begun_in_a_stale_region_is_written_there.Goals as goal

pub returns-clause-alone : goal.returns-clause-alone
returns-clause-alone c = begun_alone

pub returns-clause-begun : goal.returns-clause-begun
returns-clause-begun c = begun_there

pub returns-clause-lost : goal.returns-clause-lost
returns-clause-lost c = begun_written

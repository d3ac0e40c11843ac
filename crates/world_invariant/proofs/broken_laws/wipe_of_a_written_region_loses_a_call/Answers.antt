use Rattle.world_invariant.proofs.BrokenRegions.{unwiped_same, unwiped_can, unwiped_lost}
use Rattle.world_invariant.proofs.AloneRegions.{unwiped_alone}
use Rattle.world_invariant.proofs.broken_laws.wipe_of_a_written_region_loses_a_call.Goals as goal

pub returns-clause-alone : goal.returns-clause-alone
returns-clause-alone c = unwiped_alone

pub returns-clause-same : goal.returns-clause-same
returns-clause-same c = unwiped_same

pub returns-clause-can : goal.returns-clause-can
returns-clause-can c = unwiped_can

pub returns-clause-lost : goal.returns-clause-lost
returns-clause-lost c = unwiped_lost

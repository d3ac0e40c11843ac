use Rattle.world_invariant.proofs.BrokenRegions.{behind_same, behind_can, behind_lost}
use Rattle.world_invariant.proofs.AloneRegions.{behind_alone}
use Rattle.world_invariant.proofs.broken_laws.wipe_of_a_region_that_is_back_loses_a_call.Goals as goal

pub returns-clause-alone : goal.returns-clause-alone
returns-clause-alone c = behind_alone

pub returns-clause-same : goal.returns-clause-same
returns-clause-same c = behind_same

pub returns-clause-can : goal.returns-clause-can
returns-clause-can c = behind_can

pub returns-clause-lost : goal.returns-clause-lost
returns-clause-lost c = behind_lost

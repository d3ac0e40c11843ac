use Rattle.world_invariant.proofs.BrokenRegions.{before_same, before_can, before_lost}
use Rattle.world_invariant.proofs.AloneRegions.{before_alone}
use Rattle.world_invariant.proofs.broken_laws.mark_before_its_records_loses_a_number.Goals as goal

pub returns-clause-alone : goal.returns-clause-alone
returns-clause-alone c = before_alone

pub returns-clause-same : goal.returns-clause-same
returns-clause-same c = before_same

pub returns-clause-can : goal.returns-clause-can
returns-clause-can c = before_can

pub returns-clause-lost : goal.returns-clause-lost
returns-clause-lost c = before_lost

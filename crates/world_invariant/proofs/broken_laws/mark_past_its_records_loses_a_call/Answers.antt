use Rattle.world_invariant.proofs.BrokenWorlds.{past_same, past_sealed, past_lost}
use Rattle.world_invariant.proofs.AloneRegions.{past_alone}
use Rattle.world_invariant.proofs.broken_laws.mark_past_its_records_loses_a_call.Goals as goal

pub returns-clause-alone : goal.returns-clause-alone
returns-clause-alone c = past_alone

pub returns-clause-same : goal.returns-clause-same
returns-clause-same c = past_same

pub returns-clause-can : goal.returns-clause-can
returns-clause-can c = past_sealed

pub returns-clause-lost : goal.returns-clause-lost
returns-clause-lost c = past_lost

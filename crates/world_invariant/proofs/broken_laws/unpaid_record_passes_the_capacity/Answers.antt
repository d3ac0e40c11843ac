use Rattle.world_invariant.specs.BrokenWorlds.{unpaid_record}
use Rattle.world_invariant.proofs.BrokenWorlds.{over_digests, unpaid_passed}
use Rattle.world_invariant.proofs.AloneRecords.{unpaid_alone}
use Rattle.world_invariant.proofs.broken_laws.unpaid_record_passes_the_capacity.Goals as goal

pub returns-clause-alone : goal.returns-clause-alone
returns-clause-alone c = unpaid_alone

pub returns-clause-can : goal.returns-clause-can
returns-clause-can c = over_digests unpaid_record

pub returns-clause-passed : goal.returns-clause-passed
returns-clause-passed c = unpaid_passed

use Rattle.world_invariant.specs.BrokenWorlds.{make_record}
use Rattle.world_invariant.proofs.BrokenWorlds.{over_digests, unbooked_passed}
use Rattle.world_invariant.proofs.AloneRecords.{unbooked_alone}
use Rattle.world_invariant.proofs.broken_laws.unbooked_units_pass_the_capacity.Goals as goal

pub returns-clause-alone : goal.returns-clause-alone
returns-clause-alone c = unbooked_alone

pub returns-clause-can : goal.returns-clause-can
returns-clause-can c = over_digests make_record

pub returns-clause-passed : goal.returns-clause-passed
returns-clause-passed c = unbooked_passed

use Rattle.world_invariant.proofs.AloneRegions.{empty_alone, empty_stuck}
use Rattle.world_invariant.proofs.broken_laws.region_without_a_record_is_not_accepted.Goals as goal

pub returns-clause-alone : goal.returns-clause-alone
returns-clause-alone c = empty_alone

pub returns-clause-never : goal.returns-clause-never
returns-clause-never c = empty_stuck

use Rattle.world_invariant.proofs.BrokenBooks.{past_can, past_passed}
use Rattle.world_invariant.proofs.AloneRecords.{past_alone}
use Rattle.world_invariant.proofs.broken_laws.record_past_a_limit_is_digested.Goals as goal

pub returns-clause-alone : goal.returns-clause-alone
returns-clause-alone c = past_alone

pub returns-clause-can : goal.returns-clause-can
returns-clause-can c = past_can

pub returns-clause-passed : goal.returns-clause-passed
returns-clause-passed c = past_passed

use Rattle.world_invariant.proofs.BrokenCopies.{stale_can, stale_wrong}
use Rattle.world_invariant.proofs.AloneCopies.{stale_alone}
use Rattle.world_invariant.proofs.broken_laws.answer_by_a_stale_copy_is_no_step.Goals as goal

pub returns-clause-alone : goal.returns-clause-alone
returns-clause-alone c = stale_alone

pub returns-clause-can : goal.returns-clause-can
returns-clause-can c = stale_can

pub returns-clause-wrong : goal.returns-clause-wrong
returns-clause-wrong c = stale_wrong

use Rattle.world_invariant.proofs.BrokenWorlds.{half_begun, half_unsound}
use Rattle.world_invariant.proofs.AloneCalls.{half_alone}
use Rattle.world_invariant.proofs.broken_laws.record_of_no_call_breaks_the_whole.Goals as goal

pub returns-clause-alone : goal.returns-clause-alone
returns-clause-alone c = half_alone

pub returns-clause-begun : goal.returns-clause-begun
returns-clause-begun c = half_begun

pub returns-clause-unsound : goal.returns-clause-unsound
returns-clause-unsound c = half_unsound

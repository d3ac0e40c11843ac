use Rattle.world_invariant.proofs.AloneCalls.{another_alone, another_begun, another_wrong}
use Rattle.world_invariant.proofs.broken_laws.call_under_another_number_opens_nothing.Goals as goal

pub returns-clause-alone : goal.returns-clause-alone
returns-clause-alone c = another_alone

pub returns-clause-begun : goal.returns-clause-begun
returns-clause-begun c = another_begun

pub returns-clause-lost : goal.returns-clause-lost
returns-clause-lost c = another_wrong

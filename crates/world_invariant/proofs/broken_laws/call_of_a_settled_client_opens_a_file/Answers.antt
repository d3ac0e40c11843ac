use Rattle.world_invariant.proofs.BrokenRegions.{settled_begun, settled_open}
use Rattle.world_invariant.proofs.AloneCalls.{settled_alone}
use Rattle.world_invariant.proofs.broken_laws.call_of_a_settled_client_opens_a_file.Goals as goal

pub returns-clause-alone : goal.returns-clause-alone
returns-clause-alone c = settled_alone

pub returns-clause-begun : goal.returns-clause-begun
returns-clause-begun c = settled_begun

pub returns-clause-lost : goal.returns-clause-lost
returns-clause-lost c = settled_open

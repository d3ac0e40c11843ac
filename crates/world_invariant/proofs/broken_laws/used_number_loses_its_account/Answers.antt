use Rattle.world_invariant.proofs.BrokenBooks.{used_can, used_lost}
use Rattle.world_invariant.proofs.AloneNumbers.{used_alone}
use Rattle.world_invariant.proofs.broken_laws.used_number_loses_its_account.Goals as goal

pub returns-clause-alone : goal.returns-clause-alone
returns-clause-alone c = used_alone

pub returns-clause-can : goal.returns-clause-can
returns-clause-can c = used_can

pub returns-clause-lost : goal.returns-clause-lost
returns-clause-lost c = used_lost

use Rattle.world_invariant.proofs.BrokenBooks.{unbooked_free, unbooked_taken}
use Rattle.world_invariant.proofs.AloneBooks.{number_alone}
use Rattle.world_invariant.proofs.broken_laws.number_without_an_account_is_granted_again.Goals as goal

pub returns-clause-alone : goal.returns-clause-alone
returns-clause-alone c = number_alone

pub returns-clause-can : goal.returns-clause-can
returns-clause-can c = unbooked_free

pub returns-clause-taken : goal.returns-clause-taken
returns-clause-taken c = unbooked_taken

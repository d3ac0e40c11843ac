use Rattle.world_invariant.proofs.BrokenBooks.{twice_can, twice_free, twice_taken}
use Rattle.world_invariant.proofs.AloneNumbers.{twice_alone}
use Rattle.world_invariant.proofs.broken_laws.number_used_twice_is_free_between.Goals as goal

pub returns-clause-alone : goal.returns-clause-alone
returns-clause-alone c = twice_alone

pub returns-clause-can : goal.returns-clause-can
returns-clause-can c = twice_can

pub returns-clause-free : goal.returns-clause-free
returns-clause-free c = twice_free

pub returns-clause-taken : goal.returns-clause-taken
returns-clause-taken c = twice_taken

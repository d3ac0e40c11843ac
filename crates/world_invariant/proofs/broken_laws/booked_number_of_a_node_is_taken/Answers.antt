use Rattle.world_invariant.proofs.BrokenBooks.{taken_coming, taken_received}
use Rattle.world_invariant.proofs.AloneNumbers.{taken_alone}
use Rattle.world_invariant.proofs.broken_laws.booked_number_of_a_node_is_taken.Goals as goal

pub returns-clause-alone : goal.returns-clause-alone
returns-clause-alone c = taken_alone

pub returns-clause-can : goal.returns-clause-can
returns-clause-can c = taken_coming

pub returns-clause-taken : goal.returns-clause-taken
returns-clause-taken c = taken_received

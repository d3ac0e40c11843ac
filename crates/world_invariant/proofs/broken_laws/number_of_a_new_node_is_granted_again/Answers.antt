use Rattle.world_invariant.proofs.BrokenBooks.{node_free, node_taken}
use Rattle.world_invariant.proofs.AloneBooks.{node_alone}
use Rattle.world_invariant.proofs.broken_laws.number_of_a_new_node_is_granted_again.Goals as goal

pub returns-clause-alone : goal.returns-clause-alone
returns-clause-alone c = node_alone

pub returns-clause-can : goal.returns-clause-can
returns-clause-can c = node_free

pub returns-clause-taken : goal.returns-clause-taken
returns-clause-taken c = node_taken

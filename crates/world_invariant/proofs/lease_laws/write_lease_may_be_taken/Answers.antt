use Rattle.world_invariant.proofs.Leases.{write_taken_holds, write_taken_tree}
use Rattle.world_invariant.proofs.lease_laws.write_lease_may_be_taken.Goals as goal

pub returns-clause-holds : goal.returns-clause-holds
returns-clause-holds c = λ w c i h is_c free. write_taken_holds w c i h is_c free

pub returns-clause-tree : goal.returns-clause-tree
returns-clause-tree c = λ w c i h is_c. write_taken_tree w c i h is_c

use Rattle.world_invariant.proofs.Burials.{seated_holds, seated_tree}
use Rattle.world_invariant.proofs.burial_laws.new_client_may_take_the_seat.Goals as goal

pub returns-clause-holds : goal.returns-clause-holds
returns-clause-holds c = seated_holds

pub returns-clause-tree : goal.returns-clause-tree
returns-clause-tree c = seated_tree

use Rattle.world_history.proofs.Listings.{same_consistent, same_tree}
use Rattle.world_history.proofs.opening_laws.clients_alone_count.Goals as goal

pub returns-clause-consistent : goal.returns-clause-consistent
returns-clause-consistent r s t same consistent = same_consistent s t same consistent

pub returns-clause-tree : goal.returns-clause-tree
returns-clause-tree r s t same = same_tree s t same

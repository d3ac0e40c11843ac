use Rattle.world_invariant.proofs.Books.{pinned_holds, pinned_tree, unpinned_holds, unpinned_tree}
use Rattle.world_invariant.proofs.book_laws.pin_may_be_set_and_dropped.Goals as goal

pub returns-clause-set : goal.returns-clause-set
returns-clause-set c = pinned_holds

pub returns-clause-set_tree : goal.returns-clause-set_tree
returns-clause-set_tree c = pinned_tree

pub returns-clause-dropped : goal.returns-clause-dropped
returns-clause-dropped c = unpinned_holds

pub returns-clause-dropped_tree : goal.returns-clause-dropped_tree
returns-clause-dropped_tree c = unpinned_tree

use Rattle.world_invariant.proofs.Books.{units_granted_hold, units_granted_tree, units_returned_hold, units_returned_tree}
use Rattle.world_invariant.proofs.book_laws.units_may_be_granted_and_returned.Goals as goal

pub returns-clause-granted : goal.returns-clause-granted
returns-clause-granted c = λ w c units h is_c room. units_granted_hold w c units h is_c room

pub returns-clause-granted_tree : goal.returns-clause-granted_tree
returns-clause-granted_tree c = λ w c units h is_c. units_granted_tree w c units h is_c

pub returns-clause-returned : goal.returns-clause-returned
returns-clause-returned c = λ w c units h is_c enough. units_returned_hold w c units h is_c enough

pub returns-clause-returned_tree : goal.returns-clause-returned_tree
returns-clause-returned_tree c = λ w c units h is_c. units_returned_tree w c units h is_c

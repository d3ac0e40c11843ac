use Rattle.world_invariant.proofs.Books.{number_granted_holds, number_granted_tree, number_returned_holds, number_returned_tree}
use Rattle.world_invariant.proofs.book_laws.number_may_be_granted_and_returned.Goals as goal

pub returns-clause-granted : goal.returns-clause-granted
returns-clause-granted c = λ w c i h is_c free. number_granted_holds w c i h is_c free

pub returns-clause-granted_tree : goal.returns-clause-granted_tree
returns-clause-granted_tree c = λ w c i h is_c. number_granted_tree w c i h is_c

pub returns-clause-returned : goal.returns-clause-returned
returns-clause-returned c = number_returned_holds

pub returns-clause-returned_tree : goal.returns-clause-returned_tree
returns-clause-returned_tree c = number_returned_tree

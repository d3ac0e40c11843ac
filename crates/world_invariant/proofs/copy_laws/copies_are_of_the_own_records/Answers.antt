use Rattle.world_invariant.proofs.OwnCopies.{own_copies, known_of_own}
use Rattle.world_invariant.proofs.copy_laws.copies_are_of_the_own_records.Goals as goal

pub returns-clause-own : goal.returns-clause-own
returns-clause-own r = own_copies

pub returns-clause-all : goal.returns-clause-all
returns-clause-all r = known_of_own

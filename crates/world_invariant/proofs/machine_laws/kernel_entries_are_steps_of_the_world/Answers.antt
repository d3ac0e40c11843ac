use Rattle.std.proofs.Common.{refl}
use Rattle.world_invariant.proofs.machine_laws.kernel_entries_are_steps_of_the_world.Goals as goal

pub returns-clause-digest : goal.returns-clause-digest
returns-clause-digest c = λ w accepted d first. refl

pub returns-clause-reclaim : goal.returns-clause-reclaim
returns-clause-reclaim c = λ w accepted i. refl

pub returns-clause-book_units : goal.returns-clause-book_units
returns-clause-book_units c = λ w accepted d n. refl

pub returns-clause-unbook_units : goal.returns-clause-unbook_units
returns-clause-unbook_units c = λ w accepted d n. refl

pub returns-clause-book_number : goal.returns-clause-book_number
returns-clause-book_number c = λ w accepted d i. refl

pub returns-clause-unbook_number : goal.returns-clause-unbook_number
returns-clause-unbook_number c = λ w accepted d i. refl

pub returns-clause-book_pin : goal.returns-clause-book_pin
returns-clause-book_pin c = λ w accepted d i. refl

pub returns-clause-unbook_pin : goal.returns-clause-unbook_pin
returns-clause-unbook_pin c = λ w accepted d i. refl

pub returns-clause-bury : goal.returns-clause-bury
returns-clause-bury c = λ w accepted d. refl

pub returns-clause-migrate : goal.returns-clause-migrate
returns-clause-migrate c = λ w accepted after. refl

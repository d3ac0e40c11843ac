use Rattle.world_invariant.proofs.Machines.{accepted_runs, digested_runs, units_booked_run, units_unbooked_run, number_booked_runs, number_unbooked_runs, pin_booked_runs, pin_unbooked_runs, buried_runs, reclaimed_runs}
use Rattle.world_invariant.proofs.Migrations.{migrated_runs}
use Rattle.world_invariant.proofs.machine_laws.kernel_keeps_its_book.Goals as goal

pub returns-clause-accept : goal.returns-clause-accept
returns-clause-accept c = λ m d s r can. accepted_runs m r d can.client s can

pub returns-clause-digest : goal.returns-clause-digest
returns-clause-digest c = λ m d s first rest r t can. digested_runs m r d s first rest t can

pub returns-clause-book_units : goal.returns-clause-book_units
returns-clause-book_units c = λ m d n r is room. units_booked_run m r d is n room

pub returns-clause-unbook_units : goal.returns-clause-unbook_units
returns-clause-unbook_units c = λ m d n r is. units_unbooked_run m r d is n

pub returns-clause-book_number : goal.returns-clause-book_number
returns-clause-book_number c = λ m d i r is free. number_booked_runs m r d is i free

pub returns-clause-unbook_number : goal.returns-clause-unbook_number
returns-clause-unbook_number c = λ m d i r is. number_unbooked_runs m r d is i

pub returns-clause-book_pin : goal.returns-clause-book_pin
returns-clause-book_pin c = λ m d i r is. pin_booked_runs m r d is i

pub returns-clause-unbook_pin : goal.returns-clause-unbook_pin
returns-clause-unbook_pin c = λ m d i r is. pin_unbooked_runs m r d is i

pub returns-clause-bury : goal.returns-clause-bury
returns-clause-bury c = λ m d r is. buried_runs m r d is

pub returns-clause-reclaim : goal.returns-clause-reclaim
returns-clause-reclaim c = reclaimed_runs

pub returns-clause-migrate : goal.returns-clause-migrate
returns-clause-migrate c = migrated_runs

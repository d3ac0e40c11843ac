use Rattle.kernel_fs.proofs.Machines.{has_room, room_is, running_fits, pinned_not, not_pinned, free_is_unbooked, unbooked_is_free}
use Rattle.kernel_fs.proofs.book_laws.book_has_what_its_machine_has.Goals as goal

pub returns-clause-room : goal.returns-clause-room
returns-clause-room c = λ book m units is. (has_room book m is units, room_is book m is units)

pub returns-clause-free : goal.returns-clause-free
returns-clause-free c = λ book m nodes i is are. (free_is_unbooked book m is nodes are i, unbooked_is_free book m is nodes are i)

pub returns-clause-unpinned : goal.returns-clause-unpinned
returns-clause-unpinned c = λ book m i is nameless. ((λ e. record { file = nameless; unpinned = pinned_not book m is i e }), λ can. not_pinned book m is i can.unpinned)

pub returns-clause-fits : goal.returns-clause-fits
returns-clause-fits c = λ book m is runs. running_fits book m is runs

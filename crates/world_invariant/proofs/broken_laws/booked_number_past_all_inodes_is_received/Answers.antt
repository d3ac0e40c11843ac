use Rattle.world_invariant.proofs.BrokenBooks.{far_coming, far_received}
use Rattle.world_invariant.proofs.AloneNumbers.{far_alone}
use Rattle.world_invariant.proofs.broken_laws.booked_number_past_all_inodes_is_received.Goals as goal

pub returns-clause-alone : goal.returns-clause-alone
returns-clause-alone c = far_alone

pub returns-clause-can : goal.returns-clause-can
returns-clause-can c = far_coming

pub returns-clause-received : goal.returns-clause-received
returns-clause-received c = far_received

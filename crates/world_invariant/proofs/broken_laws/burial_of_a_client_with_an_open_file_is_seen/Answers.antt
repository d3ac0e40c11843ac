use Rattle.world_invariant.proofs.BrokenBooks.{left_can, left_seen}
use Rattle.world_invariant.proofs.AloneCalls.{left_alone}
use Rattle.world_invariant.proofs.broken_laws.burial_of_a_client_with_an_open_file_is_seen.Goals as goal

pub returns-clause-alone : goal.returns-clause-alone
returns-clause-alone c = left_alone

pub returns-clause-can : goal.returns-clause-can
returns-clause-can c = left_can

pub returns-clause-seen : goal.returns-clause-seen
returns-clause-seen c = left_seen

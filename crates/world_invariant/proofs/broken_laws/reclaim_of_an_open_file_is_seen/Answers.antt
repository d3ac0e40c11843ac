use Rattle.world_invariant.proofs.AloneBooks.{open_alone}
use Rattle.world_invariant.proofs.BrokenPins.{loose_can, loose_seen}
use Rattle.world_invariant.proofs.broken_laws.reclaim_of_an_open_file_is_seen.Goals as goal

pub returns-clause-alone : goal.returns-clause-alone
returns-clause-alone c = open_alone

pub returns-clause-can : goal.returns-clause-can
returns-clause-can c = loose_can

pub returns-clause-seen : goal.returns-clause-seen
returns-clause-seen c = loose_seen

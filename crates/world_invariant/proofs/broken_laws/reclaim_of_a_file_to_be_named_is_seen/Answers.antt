use Rattle.world_invariant.proofs.BrokenBooks.{naming_can, naming_seen}
use Rattle.world_invariant.proofs.AloneRecords.{naming_alone}
use Rattle.world_invariant.proofs.broken_laws.reclaim_of_a_file_to_be_named_is_seen.Goals as goal

pub returns-clause-alone : goal.returns-clause-alone
returns-clause-alone c = naming_alone

pub returns-clause-can : goal.returns-clause-can
returns-clause-can c = naming_can

pub returns-clause-seen : goal.returns-clause-seen
returns-clause-seen c = naming_seen

use Rattle.world_history.proofs.Consistent.{is_away, rejoined_going}
use Rattle.world_history.proofs.history_laws.failed_digest_keeps_its_region_away.Goals as goal

pub returns-clause-away : goal.returns-clause-away
returns-clause-away r s x consistent e = is_away s x consistent e

pub returns-clause-rejoined : goal.returns-clause-rejoined
returns-clause-rejoined r s consistent back = rejoined_going s consistent back

use Rattle.world_history.proofs.Consistent.{consistent_keeps}
use Rattle.world_history.proofs.Plain.{plain_is}
use Rattle.world_history.proofs.history_laws.history_stays_consistent.Goals as goal

pub returns-clause-stays : goal.returns-clause-stays
returns-clause-stays r s h consistent is = consistent_keeps s h consistent is

pub returns-clause-plain : goal.returns-clause-plain
returns-clause-plain r = plain_is

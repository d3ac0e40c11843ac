use Rattle.mount_nodes.proofs.TimeLemmas.{runs_then, written_then}
use Rattle.mount_nodes.proofs.tables.Tables.leave.Goals as goal

pub returns-clause-times : goal.returns-clause-times
returns-clause-times c = runs_then _ _ _ c.write.ensures.runs c.lose_known.ensures

pub returns-clause-left : goal.returns-clause-left
returns-clause-left c = written_then _ _ _ _ c.write.ensures.runs.goes c.write.ensures.written c.lose_known.ensures

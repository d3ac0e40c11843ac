use Rattle.mount_nodes.proofs.TimeLemmas.{runs_then}
use Rattle.mount_nodes.proofs.tables.Tables.end_move.Goals as goal

pub returns : goal.returns
returns c = runs_then _ _ _ c.lose_known.ensures (runs_then _ _ _ c.write.ensures.runs (runs_then _ _ _ c.write-2.ensures.runs c.give_name.ensures.runs))

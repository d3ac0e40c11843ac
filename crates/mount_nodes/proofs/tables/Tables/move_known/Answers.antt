use Rattle.mount_nodes.proofs.TimeLemmas.{runs_from}
use Rattle.std.proofs.Common.{inr}
use Rattle.mount_nodes.proofs.tables.Tables.move_known.Goals as goal

pub returns-clause-asked : goal.returns-clause-asked
returns-clause-asked g c = inr c.rename_paths-end.ensures

pub returns-clause-times : goal.returns-clause-times
returns-clause-times g c = runs_from _ _ _ c.in_ok-name.ensures.times c.settle_move.ensures

use Rattle.std.proofs.Common.{Ok, ap}
use Rattle.mount_nodes.proofs.CallLemmas.{asked_then}
use Rattle.mount_nodes.proofs.tables.Tables.tell_of.Goals as goal

pub returns-clause-asked : goal.returns-clause-asked
returns-clause-asked g c = asked_then g.T.Tree _ _ _ _ _ _ _ _ c.in_ok-description.ensures (Ok c.in_ok-id.id, c.in_ok-id.ensures.asked, ap Ok c.attributes_of.ensures)

use Rattle.std.specs.Prelude.{Ok}
use Rattle.mount_nodes.proofs.UpkeepLemmas.{stat_keeps_up}
use Rattle.mount_nodes.proofs.tables.Tables.note_size.Goals as goal

pub returns-clause-asked : goal.returns-clause-asked
returns-clause-asked g c = stat_keeps_up g.T.Tree c.args.path.now (Ok c.in_ok-description.description) c.args.tree.now c.stat.new.tree c.in_ok-description.ensures

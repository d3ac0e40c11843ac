use Rattle.posix_calls.specs.declared.call.Call.TheVariants as call
use Rattle.mount_nodes.proofs.UpkeepLemmas.{upkeep_once}
use Rattle.mount_nodes.proofs.open_files.close_number.Goals as goal

pub returns : goal.returns
returns g c = upkeep_once g.T.Tree c.args.tree.now (call.Close c.args.number) c.call.result c.call.new.self tt c.call.ensures

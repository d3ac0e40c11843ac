use Rattle.mount_nodes.specs.Calls.{done_of}
use Rattle.mount_nodes.proofs.CallLemmas.{ends_so}
use Rattle.mount_nodes.proofs.renames.rename_paths.Goals as goal

pub returns : goal.returns
returns g c = rw c.check_done.ensures (c.call.result, c.call.new.self, c.call.ensures, ends_so (done_of c.call.result) c.call.new.self)

use Rattle.std.proofs.Common.{◌∙◌, ap}
use Rattle.std.specs.Prelude.{is_some}
use Rattle.migrator.specs.area_reader.Store.{disk, graph}
use Rattle.kernel_fs.proofs.FirstNodes.{counted_node}
use Rattle.kernel_fs.proofs.node_scan.is_there.Goals as goal

pub returns-clause-answer : goal.returns-clause-answer
returns-clause-answer g c =
    let old = c.args.area.now in
    c.is_some.ensures ∙ ap is_some c.in_ok-found.ensures.counts ∙ counted_node (graph old.geometry (disk g.M.Media old) c.args.inode)

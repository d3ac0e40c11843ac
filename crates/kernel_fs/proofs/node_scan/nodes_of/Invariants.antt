use Rattle.migrator.specs.area_reader.Store.{disk, graph}
use Rattle.migrator.specs.area_reader.Looks.{Looks, call_answer}
use Rattle.kernel_fs.specs.Inodes.{has}
use Rattle.kernel_fs.specs.NodeScan.{AreNodesBelow}
use Rattle.kernel_fs.proofs.node_scan.nodes_of.Given as goal

abbrev pub invariant-inodes : goal.invariant-inodes
invariant-inodes g l =
    let m = g.M.Media in
    record {
      looks : Looks m l.fn.area l.area call_answer;
      below : AreNodesBelow (graph l.fn.area.geometry (disk m l.fn.area)) l.inode (has l.nodes);
    }

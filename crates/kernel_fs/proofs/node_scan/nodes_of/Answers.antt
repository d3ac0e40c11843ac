use Rattle.std.proofs.Common.{◌+◌, ◌∙◌, sym}
use Rattle.migrator.specs.layout.Places.{Sizes}
use Rattle.migrator.specs.area_reader.Store.{Store, disk, graph}
use Rattle.migrator.specs.area_reader.Looks.{call_answer}
use Rattle.migrator.proofs.area_reader_lemmas.Looked.{carried, carried_back, looks_on, looks_none}
use Rattle.kernel_fs.specs.Inodes.{has}
use Rattle.kernel_fs.specs.NodeScan.{AreNodesBelow}
use Rattle.kernel_fs.proofs.FirstNodes.{begins, ends}
use Rattle.kernel_fs.proofs.node_scan.nodes_of.Goals as goal

pub inodes-init : goal.inodes-init
inodes-init g c =
    let m = g.M.Media in
    let old = c.args.area.now in
    record {
      looks = looks_none m old tt (sym c.has_failed.ensures ∙ c.if-has_failed.false);
      below = begins old.geometry (disk m old) (has c.new-nodes.result) c.new-nodes.ensures;
    }

pub add_node-requires-clause-below : goal.add_node-requires-clause-below
add_node-requires-clause-below g c =
    let m = g.M.Media in
    carried m (λ (x : Sizes) (s : Store). AreNodesBelow (graph x s) c.inodes.inode (has c.inodes.nodes)) c.args.area.now c.inodes.area call_answer c.inodes.invariant.looks c.inodes.invariant.below

pub inodes-preserved : goal.inodes-preserved
inodes-preserved g c =
    let m = g.M.Media in
    let old = c.args.area.now in
    record {
      looks = looks_on m old c.inodes.area c.add_node.new.area tt call_answer c.inodes.invariant.looks c.in_ok-add_node.ensures.looks;
      below = carried_back m (λ (x : Sizes) (s : Store). AreNodesBelow (graph x s) (c.inodes.inode + 1) (has c.add_node.new.nodes)) old c.inodes.area call_answer c.inodes.invariant.looks c.in_ok-add_node.ensures.below;
    }

pub returns-clause-nodes : goal.returns-clause-nodes
returns-clause-nodes g c =
    let old = c.args.area.now in
    ends old.geometry (disk g.M.Media old) c.inodes.inode (has c.inodes.nodes) c.inodes-test.false c.inodes.invariant.below

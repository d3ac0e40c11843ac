use Rattle.std.proofs.Common.{◌≡◌, ◌+◌, ◌-◌, ℕ, ap, sym, ◌∙◌, arith}
use Rattle.system_laws.specs.file_graph.Graph.{Graph, graph_of, set_node}
use Rattle.interleavings.specs.Snapshots.{shared_graph, with_nodes}
use Rattle.interleavings.proofs.Snapshots.{more_nodes, quiet_then, read_then, same_shared}
use Rattle.interleavings.proofs.world.World.put_nodes.Goals as goal

pub loop-inode-preserved : goal.loop-inode-preserved
loop-inode-preserved g c =
    let m = g.M.Media in
    let old = c.args.self.now in
    let mid = c.loop-inode.self in
    let held = c.loop-inode.invariant in
    let put = c.in_ok-put_node.ensures in
    let first = graph_of c.args.graph.now in
    let inode = c.loop-inode.inode in
    let low = held.low in
    let same : inode + 1 - 1 ≡ inode = omega arith in
    record {
      low = omega (arith, low);
      put = put.put
          ∙ ap (λ (h : Graph). set_node h inode (shared_graph m mid inode)) held.put
          ∙ ap (λ (s : Graph). set_node (with_nodes first (shared_graph m old) (inode - 1)) inode (s inode)) (same_shared m old mid held.read)
          ∙ more_nodes first (shared_graph m old) inode low
          ∙ sym (ap (λ (n : ℕ). with_nodes first (shared_graph m old) n) same);
      read = read_then m old mid c.put_node.new.self held.read c.put_node.ensures.read;
      quiet = quiet_then m old mid c.put_node.new.self held.quiet put.quiet;
    }

pub returns-in_err-put_node-clause-read : goal.returns-in_err-put_node-clause-read
returns-in_err-put_node-clause-read g c = read_then g.M.Media c.args.self.now c.loop-inode.self c.put_node.new.self c.loop-inode.invariant.read c.put_node.ensures.read

use Rattle.std.proofs.Common.{ap, sym, ◌∙◌}
use Rattle.system_laws.specs.call_effects.Wholes.{state_of}
use Rattle.system_laws.specs.file_graph.Graph.{Graph, fresh}
use Rattle.system_laws.specs.WorldTree.{opened_in}
use Rattle.interleavings.specs.Snapshots.{shared_graph, with_nodes}
use Rattle.interleavings.proofs.Snapshots.{same_shared, same_tree, same_whole}
use Rattle.interleavings.proofs.world.World.snapshot.Goals as goal

pub returns-in_err-put_nodes-clause-kept : goal.returns-in_err-put_nodes-clause-kept
returns-in_err-put_nodes-clause-kept g c = same_tree g.M.Media c.args.self.now c.put_nodes.new.self c.put_nodes.ensures.read

pub returns-in-Ok-put_undigested-clause-graph : goal.returns-in-Ok-put_undigested-clause-graph
returns-in-Ok-put_undigested-clause-graph g c =
    let m = g.M.Media in
    let old = c.args.self.now in
    let new = c.put_nodes.new.self in
    let read = c.put_nodes.ensures.read in
    c.in-Ok-put_undigested.ensures
    (c.in_ok-put_nodes.ensures.put
    ∙ ap (λ (h : Graph). with_nodes h (shared_graph m old) 1024) c.in-Ok.ensures
    ∙ sym (ap (λ (s : Graph). with_nodes fresh s 1024) (same_shared m old new read)))
    ∙ same_whole m old new read

pub returns-in-Ok-put_undigested-clause-tree : goal.returns-in-Ok-put_undigested-clause-tree
returns-in-Ok-put_undigested-clause-tree g c = ap (λ (h : Graph). state_of h (opened_in c.args.self.now.system)) (returns-in-Ok-put_undigested-clause-graph g c)

pub returns-in-Ok-put_undigested-clause-kept : goal.returns-in-Ok-put_undigested-clause-kept
returns-in-Ok-put_undigested-clause-kept g c = same_tree g.M.Media c.args.self.now c.put_nodes.new.self c.put_nodes.ensures.read

pub returns-in-Err-put_undigested-clause-kept : goal.returns-in-Err-put_undigested-clause-kept
returns-in-Err-put_undigested-clause-kept g c = same_tree g.M.Media c.args.self.now c.put_nodes.new.self c.put_nodes.ensures.read

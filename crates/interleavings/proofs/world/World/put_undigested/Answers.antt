use Rattle.std.proofs.Common.{◌≡◌, false, subst}
use Rattle.system_laws.specs.file_graph.Graph.{fresh, graph_of}
use Rattle.system_laws.specs.WorldTree.{whole_graph}
use Rattle.system_laws.specs.WorldView.{WorldView}
use Rattle.interleavings.specs.Snapshots.{shared_graph, with_nodes}
use Rattle.interleavings.proofs.NodePuts.{on_ok}
use Rattle.interleavings.proofs.Snapshots.{kept_whole}
use Rattle.interleavings.proofs.world.World.put_undigested.Goals as goal

pub returns : goal.returns
returns g c =
    let m = g.M.Media in
    let v : WorldView _ = record { system = c.self.inside.system; calls = c.self.inside.notes.calls } in
    let now = graph_of c.args.graph.now in
    let then = graph_of c.put_logs.new.graph in
    on_ok c.put_logs.result
    (λ done. subst (λ (w : WorldView _). w.system.kernel.area.failed ≡ false → now ≡ with_nodes fresh (shared_graph m w) 1024 → then ≡ whole_graph m w.system) c.self.view_is
    (λ going put. kept_whole m v c.self.invariant c.left_now.ensures.leaves going now then put done) c.requires.going) c.put_logs.ensures

use Rattle.std.proofs.Common.{ℕ, Some, ap, ◌∙◌}
use Rattle.std.specs.FinMap as fin
use Rattle.system_laws.specs.record_validation.NodeAnswers.{entries_of}
use Rattle.posix_calls.specs.Content.{Entries}
use Rattle.system_laws.specs.file_graph.Graph.{DirBody, Graph, after_effects, graph_of, set_node}
use Rattle.system_laws.specs.file_graph.declared.effect.Kind.{Kind}
use Rattle.interleavings.specs.Snapshots.{entries_put}
use Rattle.interleavings.proofs.NodePuts.{entries_are_put, map_of_entries, on_ok}
use Rattle.interleavings.proofs.node_copies.put_directory.Goals as goal

pub returns : goal.returns
returns c = on_ok c.put_entries.result (λ put. put
    ∙ ap (λ (g : Graph). after_effects g (entries_put c.args.inode (fin.entries (entries_of c.args.known.now)))) c.in_ok-make_node.ensures
    ∙ entries_are_put (graph_of c.args.graph.now) c.args.inode c.args.names (fin.entries (entries_of c.args.known.now))
    ∙ ap (λ (m : Entries (ℕ × Kind)). set_node (graph_of c.args.graph.now) c.args.inode (Some (record { names = c.args.names; body = DirBody m }))) (map_of_entries (entries_of c.args.known.now))) c.put_entries.ensures

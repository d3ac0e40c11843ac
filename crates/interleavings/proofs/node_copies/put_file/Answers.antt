use Rattle.std.proofs.Common.{List, [], ℕ, Some, ap, ◌∙◌}
use Rattle.system_laws.specs.file_graph.Graph.{FileBody, Graph, after_effect, graph_of, set_node}
use Rattle.system_laws.specs.file_graph.declared.effect.Effect.TheVariants as effect
use Rattle.interleavings.proofs.NodePuts.{bytes_put, on_ok}
use Rattle.interleavings.proofs.node_copies.put_file.Goals as goal

pub returns : goal.returns
returns c =
    let empty = set_node (graph_of c.args.graph.now) c.args.inode (Some (record { names = c.args.names; body = FileBody [] })) in
    on_ok c.apply.result (λ put. put
    ∙ ap (λ (g : Graph). after_effect g (effect.Bytes c.args.inode 0 c.in_ok-bytes.bytes)) c.in_ok-make_node.ensures
    ∙ ap (λ (bs : List ℕ). after_effect empty (effect.Bytes c.args.inode 0 bs)) c.in_ok-bytes.ensures
    ∙ bytes_put (graph_of c.args.graph.now) c.args.inode c.args.names c.args.bytes.items) c.apply.ensures.ok

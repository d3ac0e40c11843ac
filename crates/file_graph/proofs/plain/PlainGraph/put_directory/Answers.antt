use Rattle.std.proofs.Common.{◌≡◌, ℕ, ap, sym, ◌∙◌, Some}
use Rattle.std.proofs.lemmas.Result.{on_ok_weaker, on_err_weaker}
use Rattle.file_graph.specs.Graph.{Graph, Node, set_node}
use Rattle.file_graph.proofs.Maps.{graph_is, same_nodes}
use Rattle.file_graph.proofs.plain.PlainGraph.put_directory.Goals as goal

-- the same node put into the same graph
placed : (g h : Graph) (i : ℕ) (m n : Node) → g ≡ h → m ≡ n → set_node g i (Some m) ≡ set_node h i (Some n)
placed g h i m n same is = ap (λ (x : Graph). set_node x i (Some m)) same ∙ ap (λ (x : Node). set_node h i (Some x)) is

pub returns-clause-ok : goal.returns-clause-ok
returns-clause-ok c =
    rw (← c.self.view_is)
    (on_ok_weaker c.put_node.result
    (λ e. graph_is c.put_node.new.nodes ∙ e ∙ placed _ _ c.args.inode _ _ (sym (graph_is c.self.inside.nodes)) c.directory.ensures)
    c.put_node.ensures.ok)

pub returns-clause-err : goal.returns-clause-err
returns-clause-err c = rw (← c.self.view_is) (on_err_weaker c.put_node.result (λ e. same_nodes c.put_node.new.nodes c.self.inside.nodes e) c.put_node.ensures.err)

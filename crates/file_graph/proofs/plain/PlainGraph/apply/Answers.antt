use Rattle.std.proofs.Common.{ap, sym, ◌∙◌}
use Rattle.std.proofs.lemmas.Result.{on_ok_weaker, on_err_weaker}
use Rattle.file_graph.specs.Graph.{Graph, after_effect}
use Rattle.file_graph.proofs.Maps.{graph_is, same_nodes}
use Rattle.file_graph.proofs.plain.PlainGraph.apply.Goals as goal

pub returns-clause-ok : goal.returns-clause-ok
returns-clause-ok c =
    rw (← c.self.view_is)
    (on_ok_weaker c.apply.result
    (λ e. graph_is c.apply.new.nodes ∙ e ∙ ap (λ (g : Graph). after_effect g c.args.effect.now) (sym (graph_is c.self.inside.nodes))) c.apply.ensures.ok)

pub returns-clause-err : goal.returns-clause-err
returns-clause-err c = rw (← c.self.view_is) (on_err_weaker c.apply.result (λ e. same_nodes c.apply.new.nodes c.self.inside.nodes e) c.apply.ensures.err)

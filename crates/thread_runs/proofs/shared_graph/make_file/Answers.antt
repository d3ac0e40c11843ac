use Rattle.std.proofs.Common.{◌≡◌, ◌∙◌, OnOk, ap, subst}
use Rattle.posix_calls.specs.declared.limits.TheConstants.{ROOT}
use Rattle.plain_tree.specs.file_graph.declared.effect.Effect.TheVariants.{Enter, Names}
use Rattle.plain_tree.specs.file_graph.declared.effect.Kind.TheVariants.{File}
use Rattle.plain_tree.specs.file_graph.Graph.{Graph, graph_of, after_effect}
use Rattle.thread_runs.specs.declared.shared_graph.TheConstants.{FILE}
use Rattle.thread_runs.proofs.shared_graph.make_file.Goals as goal

-- each effect is done to what the one before it left
pub returns : goal.returns
returns c =
    let entered = c.in_ok-apply-2.ensures ∙ ap (λ (g : Graph). after_effect g (Enter ROOT FILE File c.args.name)) c.in_ok-apply.ensures in
    subst (λ (g : Graph). OnOk c.apply-3.result (graph_of c.apply-3.new.graph ≡ after_effect g (Names FILE 1))) entered c.apply-3.ensures

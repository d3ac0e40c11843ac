use Rattle.std.proofs.Common.{rules, ◌≡◌, ◌∙◌, ◌∷◌, ◌+◌, ◌<◌, length, drop, ap, sym}
use Rattle.std.proofs.lemmas.List.{drop_more}
use Rattle.plain_tree.specs.file_graph.Graph.{Graph, graph_of, after_effects}
use Rattle.thread_runs.proofs.shared_graph.apply_record.Goals as goal

pub loop-effect-preserved : goal.loop-effect-preserved
loop-effect-preserved c =
    let items = c.as_slice-effect-items.result.now in
    let i = c.loop-effect.effect-index in
    let effect = c.effect-item.result in
    let within : i < length items = search rules in
    let split : drop i items ≡ effect ∷ drop (i + 1) items = drop_more items i effect within ∙ ap (λ e. e ∷ drop (i + 1) items) (sym c.effect-item.is) in
    ap (λ (g : Graph). after_effects g (drop (i + 1) items)) c.in_ok-apply.ensures.ok
    ∙ ap (after_effects (graph_of c.loop-effect.graph)) (sym split) ∙ c.loop-effect.invariant

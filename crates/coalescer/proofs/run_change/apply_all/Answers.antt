use Rattle.std.proofs.Common.{ap, ◌∙◌}
use Rattle.std.proofs.lemmas.List.{take_all}
use Rattle.graph_change.specs.file_graph.Graph.{Graph, after_effect, after_effects, graph_of}
use Rattle.coalescer.proofs.Entered.{next_after}
use Rattle.coalescer.proofs.run_change.apply_all.Goals as goal

pub loop-effect-preserved : goal.loop-effect-preserved
loop-effect-preserved c =
    let e = c.effect-item.result in
    c.in_ok-apply.ensures.ok
    ∙ ap (λ (g : Graph). after_effect g e) c.loop-effect.invariant
    ∙ next_after (graph_of c.args.graph.now) c.args.effects.now c.loop-effect.effect-index e c.loop-effect-test.true c.effect-item.is

pub returns-clause-after : goal.returns-clause-after
returns-clause-after c = c.loop-effect.invariant ∙ ap (after_effects (graph_of c.args.graph.now)) (take_all c.loop-effect.effect-index c.args.effects.now c.loop-effect-test.false)

use Rattle.std.proofs.Common.{ap, ◌∙◌, [], ◌∷◌}
use Rattle.std.proofs.lemmas.List.{take_all}
use Rattle.graph_change.specs.file_graph.Graph.{entered_places, graph_of, swap_places}
use Rattle.graph_change.specs.Change.{Changes, with_effects}
use Rattle.graph_change.specs.View.{changes_of}
use Rattle.coalescer.proofs.Entered.{next_entered}
use Rattle.coalescer.proofs.run_change.enter_swapped.Goals as goal

pub loop-effect-preserved : goal.loop-effect-preserved
loop-effect-preserved c =
    let e = c.effect-item.result in
    c.in_ok-enter_both.ensures
    ∙ ap (λ (cs : Changes). with_effects cs (entered_places (graph_of c.args.graph.now) (swap_places (e ∷ [])))) c.loop-effect.invariant
    ∙ next_entered (changes_of c.args.change.now) (graph_of c.args.graph.now) c.args.effects.now c.loop-effect.effect-index e c.loop-effect-test.true c.effect-item.is

pub returns-clause-entered : goal.returns-clause-entered
returns-clause-entered c =
    c.loop-effect.invariant
    ∙ ap (λ es. with_effects (changes_of c.args.change.now) (entered_places (graph_of c.args.graph.now) (swap_places es))) (take_all c.loop-effect.effect-index c.args.effects.now c.loop-effect-test.false)

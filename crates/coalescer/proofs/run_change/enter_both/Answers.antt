use Rattle.std.proofs.Common.{[], ◌∷◌, ap, sym, ◌∙◌}
use Rattle.std.proofs.lemmas.Result.{on_ok_weaker}
use Rattle.graph_change.specs.file_graph.declared.effect.Effect.{Effect}
use Rattle.graph_change.specs.file_graph.Graph.{child_at, entered_if, entered_places, graph_of, swap_places}
use Rattle.graph_change.specs.Change.{Changes, with_effects}
use Rattle.graph_change.specs.View.{changes_of}
use Rattle.coalescer.proofs.Entered.{both_entered}
use Rattle.coalescer.proofs.run_change.enter_both.Goals as goal

pub returns-in_ok-enter_child-in-Swap : goal.returns-in_ok-enter_child-in-Swap
returns-in_ok-enter_child-in-Swap c =
    let g = graph_of c.args.graph.now in
    let d = c.in-Swap.directory in
    let a = c.in-Swap.name in
    let e = c.in-Swap.other in
    let b = c.in-Swap.other_name in
    on_ok_weaker c.enter_child-in-Swap.result
    (λ second.
    second
    ∙ ap (λ (cs : Changes). with_effects cs (entered_if (e, b) (child_at g e b) [])) c.in_ok-enter_child-in-Swap.ensures
    ∙ both_entered (changes_of c.args.change.now) g d a e b
    ∙ ap (λ (x : Effect). with_effects (changes_of c.args.change.now) (entered_places g (swap_places (x ∷ [])))) (sym c.in-Swap.is))
    c.enter_child-in-Swap.ensures

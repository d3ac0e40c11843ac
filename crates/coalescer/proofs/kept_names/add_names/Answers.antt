use Rattle.std.proofs.Common.{List, ◌∷◌, [], ◌++◌, ◌≤◌, length, ap, ◌∙◌, subst}
use Rattle.std.proofs.lemmas.List.{take_all}
use Rattle.graph_change.specs.file_graph.declared.effect.Effect.{Effect}
use Rattle.graph_change.specs.Swaps.{on_names}
use Rattle.coalescer.proofs.Folds.{on_error, some_read}
use Rattle.coalescer.proofs.KeptNames.{next_read}
use Rattle.coalescer.proofs.kept_names.add_names.Goals as goal

pub loop-effect-preserved : goal.loop-effect-preserved
loop-effect-preserved c =
    let e = c.effect-item.result in
    c.in_ok-add_name.ensures
    ∙ ap (λ (xs : List Effect). xs ++ on_names (e ∷ [])) c.loop-effect.invariant
    ∙ next_read c.args.names.now.items c.args.logged.now.effects c.as_slice-effect-items.result.now c.loop-effect.effect-index e c.as_slice-effect-items.ensures c.loop-effect-test.true c.effect-item.is

pub returns-clause-exact : goal.returns-clause-exact
returns-clause-exact c =
    c.loop-effect.invariant
    ∙ ap (λ (xs : List Effect). c.args.names.now.items ++ on_names xs) (take_all c.loop-effect.effect-index c.args.logged.now.effects (subst (λ (xs : List Effect). length xs ≤ c.loop-effect.effect-index) c.as_slice-effect-items.ensures c.loop-effect-test.false))

pub returns-in_err-add_name-clause-memory : goal.returns-in_err-add_name-clause-memory
returns-in_err-add_name-clause-memory c =
    on_error c.from_residual.result (some_read c.args.logged.now.effects c.as_slice-effect-items.result.now c.loop-effect.effect-index c.as_slice-effect-items.ensures c.loop-effect-test.true)

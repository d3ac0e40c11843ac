use Rattle.std.proofs.Common.{List, ◌++◌, ap, sym, ◌∙◌, append-nil}
use Rattle.graph_change.specs.file_graph.declared.effect.Effect.{Effect}
use Rattle.coalescer.proofs.KeptNames.{kept_one, kept_nothing}
use Rattle.coalescer.proofs.kept_names.add_name.Goals as goal

pub returns-in_ok-push-in-Some : goal.returns-in_ok-push-in-Some
returns-in_ok-push-in-Some c =
    c.in_ok-push-in-Some.ensures.items
    ∙ ap (λ (xs : List Effect). c.args.names.now.items ++ xs) (sym (kept_one c.args.effect.now c.in-Some.copy (sym c.in-Some.is ∙ c.in_ok-kept.ensures)))

pub returns-in-None : goal.returns-in-None
returns-in-None c =
    sym (append-nil c.args.names.now.items)
    ∙ ap (λ (xs : List Effect). c.args.names.now.items ++ xs) (sym (kept_nothing c.args.effect.now (sym c.in-None.is ∙ c.in_ok-kept.ensures)))

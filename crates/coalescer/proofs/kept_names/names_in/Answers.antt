use Rattle.std.proofs.Common.{List, ◌<◌, ◌++◌, length, ap, ◌∙◌, subst}
use Rattle.std.proofs.lemmas.List.{take_all}
use Rattle.graph_change.specs.file_graph.declared.effect.Effect.{Effect}
use Rattle.graph_change.specs.Swaps.{on_names}
use Rattle.log_record.specs.declared.format.Record.{Record}
use Rattle.coalescer.specs.Records.{effects_in}
use Rattle.coalescer.proofs.Folds.{some_among, of_error}
use Rattle.coalescer.proofs.KeptNames.{next_names}
use Rattle.coalescer.proofs.kept_names.names_in.Goals as goal

pub loop-logged-preserved : goal.loop-logged-preserved
loop-logged-preserved c =
    let d = c.logged-item.result in
    c.in_ok-add_names.ensures.exact
    ∙ ap (λ (xs : List Effect). xs ++ on_names d.effects) c.loop-logged.invariant
    ∙ next_names c.args.records.now c.loop-logged.logged-index d c.loop-logged-test.true c.logged-item.is

pub returns-clause-exact : goal.returns-clause-exact
returns-clause-exact c = c.from_vec.ensures ∙ c.loop-logged.invariant ∙ ap (λ rs. on_names (effects_in rs)) (take_all c.loop-logged.logged-index c.args.records.now c.loop-logged-test.false)

pub returns-in_err-add_names-clause-memory : goal.returns-in_err-add_names-clause-memory
returns-in_err-add_names-clause-memory c =
    let d = c.logged-item.result in
    of_error c.from_residual.result (some_among c.args.records.now c.loop-logged.logged-index d c.loop-logged-test.true (subst (λ (r : Record). 0 < length r.effects) c.logged-item.is c.in_err-add_names.ensures.memory))

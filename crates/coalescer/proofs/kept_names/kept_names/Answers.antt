use Rattle.std.proofs.Common.{List, sym, ◌∙◌, ◌≡◌, subst}
use Rattle.std.specs.Prelude.{IfOk}
use Rattle.graph_change.specs.file_graph.declared.effect.Effect.{Effect}
use Rattle.coalescer.specs.Records.{effects_in}
use Rattle.coalescer.proofs.KeptNames.{kept_none, kept_all}
use Rattle.coalescer.proofs.kept_names.kept_names.Goals as goal

pub returns-then-not-is_swap_among-clause-exact : goal.returns-then-not-is_swap_among-clause-exact
returns-then-not-is_swap_among-clause-exact c =
    let none = kept_none (effects_in c.args.records.now) (sym c.is_swap_among.ensures ∙ c.if-not-is_swap_among.true) in
    cc none

pub returns-clause-exact : goal.returns-clause-exact
returns-clause-exact c =
    subst (λ (all : List Effect). IfOk c.names_in.result (λ names. names ≡ all)) (sym (kept_all (effects_in c.args.records.now) (sym c.is_swap_among.ensures ∙ c.if-not-is_swap_among.false))) c.names_in.ensures.exact

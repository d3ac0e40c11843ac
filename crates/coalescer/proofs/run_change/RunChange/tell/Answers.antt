use Rattle.std.proofs.Common.{ap, ◌∙◌, length, ◌<◌, List, subst}
use Rattle.std.proofs.lemmas.Result.{on_ok_weaker, on_err_weaker}
use Rattle.graph_change.specs.file_graph.declared.effect.Effect.{Effect}
use Rattle.graph_change.specs.file_graph.Graph.{after_effects, graph_of}
use Rattle.graph_change.specs.View.{changes_of}
use Rattle.coalescer.proofs.Entered.{told_run}
use Rattle.coalescer.proofs.Folds.{on_error, on_success}
use Rattle.coalescer.proofs.run_change.RunChange.tell.Goals as goal

pub returns-clause-change : goal.returns-clause-change
returns-clause-change c =
    on_ok_weaker c.enter_swapped.result
    (λ entered g alike.
    told_run (changes_of c.args.self.now.change) (changes_of c.enter_swapped.new.change) (graph_of c.args.directories.now) (graph_of c.apply_all.new.graph) g
    c.args.self.now.names c.as_slice-names.result.now c.as_slice-names.ensures c.in_ok-apply_all.ensures.after entered alike)
    c.enter_swapped.ensures.entered

pub returns-clause-after : goal.returns-clause-after
returns-clause-after c = on_success c.enter_swapped.result (c.in_ok-apply_all.ensures.after ∙ ap (after_effects (graph_of c.args.directories.now)) c.as_slice-names.ensures)

pub returns-clause-memory : goal.returns-clause-memory
returns-clause-memory c = on_err_weaker c.enter_swapped.result (subst (λ (es : List Effect). 0 < length es) c.as_slice-names.ensures) c.enter_swapped.ensures.memory

pub returns-in_err-apply_all-clause-memory : goal.returns-in_err-apply_all-clause-memory
returns-in_err-apply_all-clause-memory c = on_error c.from_residual.result (subst (λ (es : List Effect). 0 < length es) c.as_slice-names.ensures c.in_err-apply_all.ensures.memory)

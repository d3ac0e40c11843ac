use Rattle.std.proofs.Common.{◌∙◌, ℕ, List, ap, sym}
use Rattle.graph_change.specs.Change.{put_patch}
use Rattle.graph_change.specs.Runs.{kept_view}
use Rattle.graph_change.specs.View.{patch_of}
use Rattle.graph_change.proofs.Kepts.{put_on_nothing, put_over_run, some_of_run, said_of_error}
use Rattle.graph_change.proofs.kept_bytes.Kept.put.Goals as goal

pub returns-in-Nothing-clause-put : goal.returns-in-Nothing-clause-put
returns-in-Nothing-clause-put c = put_on_nothing c.args.self.now c.args.place c.args.part c.in-Nothing.is

pub returns-in_ok-self-in-Run-clause-put : goal.returns-in_ok-self-in-Run-clause-put
returns-in_ok-self-in-Run-clause-put c = λ p. c.in_ok-self-in-Run.ensures.put p ∙ put_over_run c.args.self.now c.in-Run.first c.args.place c.in-Run.run' c.args.part c.in-Run.is p

pub returns-in-Own-clause-put : goal.returns-in-Own-clause-put
returns-in-Own-clause-put c = λ p.
    c.put.ensures p
    ∙ ap (λ (xs : List ℕ). put_patch c.args.place xs (patch_of c.in-Own.own) p) c.as_slice.ensures
    ∙ ap (λ k. put_patch c.args.place c.args.part (patch_of (kept_view k)) p) (sym c.in-Own.is)

pub returns-in_err-self-in-Run-clause-memory : goal.returns-in_err-self-in-Run-clause-memory
returns-in_err-self-in-Run-clause-memory c =
    said_of_error c.from_residual.result (c.in-Run.first, some_of_run c.args.self.now c.in-Run.first c.in-Run.run' c.in-Run.is c.in_err-self-in-Run.ensures.memory)

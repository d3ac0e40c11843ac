use Rattle.std.proofs.Common.{◌∙◌, ℕ, List, ap, sym}
use Rattle.graph_change.specs.Change.{put_patch}
use Rattle.graph_change.specs.Runs.{kept_view}
use Rattle.graph_change.specs.View.{patch_of}
use Rattle.graph_change.proofs.Kepts.{put_on_nothing, put_over_run, said_of_ok}
use Rattle.graph_change.proofs.kept_bytes.Kept.with.Goals as goal

pub returns-in-Nothing-clause-put : goal.returns-in-Nothing-clause-put
returns-in-Nothing-clause-put c = put_on_nothing c.args.self.now c.args.place c.args.part c.in-Nothing.is

pub returns-in-Run-clause-put : goal.returns-in-Run-clause-put
returns-in-Run-clause-put c = said_of_ok c.put_on_run.result _ _ (λ new told p. told p ∙ put_over_run c.args.self.now c.in-Run.first c.args.place c.in-Run.run' c.args.part c.in-Run.is p) c.put_on_run.ensures.put

pub returns-in-Own-clause-put : goal.returns-in-Own-clause-put
returns-in-Own-clause-put c =
    said_of_ok c.put_on_copy.result _ _ (λ new told p.
    told p
    ∙ ap (λ (xs : List ℕ). put_patch c.args.place xs (patch_of c.in-Own.own) p) c.as_slice.ensures
    ∙ ap (λ k. put_patch c.args.place c.args.part (patch_of (kept_view k)) p) (sym c.in-Own.is)) c.put_on_copy.ensures.put

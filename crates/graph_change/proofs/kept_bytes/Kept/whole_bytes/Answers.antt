use Rattle.std.proofs.Common.{◌∙◌, ap, length, subst}
use Rattle.std.specs.Prelude.{IsSome}
use Rattle.graph_change.specs.Runs.{IsWithin, kept_view}
use Rattle.graph_change.specs.View.{patch_of}
use Rattle.graph_change.proofs.Runs.{run_is, run_part}
use Rattle.graph_change.proofs.kept_bytes.Kept.whole_bytes.Goals as goal

pub returns-in-Run-clause-none : goal.returns-in-Run-clause-none
returns-in-Run-clause-none c none whole =
    let place = c.in-Run.place in
    let part = c.in-Run.part in
    run_part place part (subst IsWithin c.in-Run.is c.requires.kept) (λ long. c.whole_run.ensures.none none (ap length c.as_slice.ensures ∙ long)) (λ p lt. subst IsSome (run_is place part p) (subst (λ k. IsSome (patch_of (kept_view k) p)) c.in-Run.is (whole p lt)))

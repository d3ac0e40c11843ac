use Rattle.std.proofs.Common.{◌∙◌, ◌+◌, ◌++◌, [], ap, arith, length, take, drop, refl, subst, sym}
use Rattle.graph_change.specs.Change.{Patch, patched_bytes}
use Rattle.graph_change.specs.Runs.{IsWithin, kept_view}
use Rattle.graph_change.specs.View.{patch_of}
use Rattle.graph_change.proofs.Runs.{none_over, over_run, run_is}
use Rattle.graph_change.proofs.kept_bytes.Kept.put_over.Goals as goal

pub returns-in-Nothing : goal.returns-in-Nothing
returns-in-Nothing c =
    none_over (patch_of ([], [])) c.args.block.now (λ p. refl) ∙ ap (λ k. patched_bytes (patch_of (kept_view k)) c.args.block.now) (sym c.in-Nothing.is)

pub returns-in-Run : goal.returns-in-Run
returns-in-Run c =
    let place = c.in-Run.place in
    let part = c.in-Run.part in
    let old = c.args.block.now in
    let within = subst IsWithin c.in-Run.is c.requires.kept in
    c.overwrite.ensures
    ∙ ap (λ xs. take place old ++ xs ++ drop (place + length xs) old) c.as_slice.ensures
    ∙ over_run place part old (omega (arith, within, c.requires.long))
    ∙ ap (λ (f : Patch). patched_bytes f old) (λ t p. sym (run_is place part p) t)
    ∙ ap (λ k. patched_bytes (patch_of (kept_view k)) old) (sym c.in-Run.is)

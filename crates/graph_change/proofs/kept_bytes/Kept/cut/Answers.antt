use Rattle.std.proofs.Common.{◌∙◌, ap, sym, take}
use Rattle.graph_change.specs.Change.{cut_patch}
use Rattle.graph_change.specs.Runs.{kept_view}
use Rattle.graph_change.specs.View.{patch_of}
use Rattle.graph_change.proofs.Kepts.{cut_nothing, cut_run}
use Rattle.graph_change.proofs.kept_bytes.Kept.cut.Goals as goal

pub returns-in-Nothing-clause-cut : goal.returns-in-Nothing-clause-cut
returns-in-Nothing-clause-cut c = cut_nothing c.args.self.now c.args.place c.in-Nothing.is

pub returns-in-Run-clause-cut : goal.returns-in-Run-clause-cut
returns-in-Run-clause-cut c = cut_run c.args.self.now c.in-Run.first c.args.place c.in-Run.part c.truncate.new.self c.in-Run.is (c.truncate.ensures ∙ ap (λ n. take n c.in-Run.part) c.saturating_sub.ensures)

pub returns-in-Own-clause-cut : goal.returns-in-Own-clause-cut
returns-in-Own-clause-cut c = λ p. c.cut.ensures p ∙ ap (λ k. cut_patch c.args.place (patch_of (kept_view k)) p) (sym c.in-Own.is)

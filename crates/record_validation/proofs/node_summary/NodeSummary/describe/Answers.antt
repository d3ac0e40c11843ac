use Rattle.std.proofs.Common.{Some, ap, sym, ◌∙◌}
use Rattle.posix_calls.specs.Answers.{count_in, description_of}
use Rattle.posix_calls.specs.declared.operation.Description.TheVariants as description
use Rattle.record_validation.specs.NodeAnswers.{seen_node}
use Rattle.record_validation.proofs.Shown.{of_directory, counted}
use Rattle.record_validation.proofs.node_summary.NodeSummary.describe.Goals as goal

pub returns-in-Directory : goal.returns-in-Directory
returns-in-Directory c =
    let is = of_directory _ _ _ _ c.self.view_is c.in-Directory.is in
    ap (λ n. Some (description.Dir n)) (c.len.ensures ∙ counted _ _ _ is ∙ ap (λ v. count_in (seen_node v)) is) ∙ sym (ap (λ v. description_of (seen_node v)) is)

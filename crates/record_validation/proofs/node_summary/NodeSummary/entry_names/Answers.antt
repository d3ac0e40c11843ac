use Rattle.std.proofs.Common.{◌∙◌}
use Rattle.std.proofs.lemmas.Result.{IfOk-weaker, IfErr-weaker}
use Rattle.record_validation.proofs.Shown.{of_file, of_directory, no_names, listed, some_counted}
use Rattle.record_validation.proofs.node_summary.NodeSummary.entry_names.Goals as goal

pub returns-in-File-clause-names : goal.returns-in-File-clause-names
returns-in-File-clause-names c = c.from_vec.ensures ∙ c.new.ensures.items ∙ no_names _ _ _ (of_file _ _ _ _ c.self.view_is c.in-File.is)

pub returns-in-Directory-clause-names : goal.returns-in-Directory-clause-names
returns-in-Directory-clause-names c =
    let is = of_directory _ _ _ _ c.self.view_is c.in-Directory.is in
    IfOk-weaker c.names.result _ _ (λ x e. e ∙ listed _ _ _ is) c.names.ensures.names

pub returns-in-Directory-clause-memory : goal.returns-in-Directory-clause-memory
returns-in-Directory-clause-memory c =
    let is = of_directory _ _ _ _ c.self.view_is c.in-Directory.is in
    IfErr-weaker c.names.result _ _ (λ x some. some_counted _ _ _ is some) c.names.ensures.memory

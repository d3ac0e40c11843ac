use Rattle.std.proofs.Common.{◌∙◌}
use Rattle.record_validation.proofs.Shown.{of_file, of_directory, no_count, counted, none_there}
use Rattle.record_validation.proofs.node_summary.NodeSummary.entry_count.Goals as goal

pub returns-in-File-clause-entries : goal.returns-in-File-clause-entries
returns-in-File-clause-entries c = none_there _ _ _ (of_file _ _ _ _ c.self.view_is c.in-File.is)

pub returns-in-File-clause-shown : goal.returns-in-File-clause-shown
returns-in-File-clause-shown c = no_count _ _ _ (of_file _ _ _ _ c.self.view_is c.in-File.is)

pub returns-in-Directory-clause-shown : goal.returns-in-Directory-clause-shown
returns-in-Directory-clause-shown c = c.len.ensures ∙ counted _ _ _ (of_directory _ _ _ _ c.self.view_is c.in-Directory.is)

use Rattle.record_validation.proofs.Shown.{of_file, no_entries}
use Rattle.record_validation.proofs.node_summary.NodeSummary.entries.Goals as goal

pub returns-in-File : goal.returns-in-File
returns-in-File c = no_entries _ _ _ (of_file _ _ _ _ c.self.view_is c.in-File.is)

use Rattle.std.proofs.Common.{◌≡◌, ap, ◌∙◌, rules}
use Rattle.std.specs.Prelude.{option_map}
use Rattle.std.specs.FinMap as fin
use Rattle.record_validation.proofs.Shown.{of_file, of_directory, no_child, no_entry, child_named}
use Rattle.record_validation.proofs.node_summary.NodeSummary.child.Goals as goal

pub returns-in-File-clause-there : goal.returns-in-File-clause-there
returns-in-File-clause-there c = no_child c.args.name.now _ _ _ (of_file _ _ _ _ c.self.view_is c.in-File.is)

pub returns-in-File-clause-inode : goal.returns-in-File-clause-inode
returns-in-File-clause-inode c = no_entry c.args.name.now _ _ _ (of_file _ _ _ _ c.self.view_is c.in-File.is)

pub returns-in-Directory-clause-inode : goal.returns-in-Directory-clause-inode
returns-in-Directory-clause-inode c =
    let there : c.copied.result ≡ fin.get c.in-Directory.entries c.args.name.now = search rules in
    ap (option_map (λ e. e.0)) there ∙ child_named c.args.name.now _ _ _ (of_directory _ _ _ _ c.self.view_is c.in-Directory.is)

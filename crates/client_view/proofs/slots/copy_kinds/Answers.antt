use Rattle.std.proofs.Common.{◌∙◌}
use Rattle.client_plan.specs.file_graph.declared.effect.Kind.TheVariants as kinds
use Rattle.client_view.proofs.ListedKinds.{entries_tell}
use Rattle.client_view.proofs.slots.copy_kinds.Goals as goal

pub returns-clause-directory : goal.returns-clause-directory
returns-clause-directory c = c.entry_kinds.ensures.directory ∙ entries_tell c.args.inode kinds.Directory c.entries.result.now c.args.copy.now c.entries.ensures

pub returns-clause-file : goal.returns-clause-file
returns-clause-file c = c.entry_kinds.ensures.file ∙ entries_tell c.args.inode kinds.File c.entries.result.now c.args.copy.now c.entries.ensures

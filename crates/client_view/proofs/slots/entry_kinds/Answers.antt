use Rattle.std.proofs.Common.{sym, ◌∙◌}
use Rattle.client_plan.specs.file_graph.declared.effect.Kind.TheVariants as kinds
use Rattle.client_view.proofs.ListedKinds.{none_as}
use Rattle.client_view.proofs.slots.entry_kinds.Goals as goal

pub returns-then-not-any_names-clause-directory : goal.returns-then-not-any_names-clause-directory
returns-then-not-any_names-clause-directory c = c.no_kinds.ensures.directory ∙ sym (none_as c.args.inode kinds.Directory c.args.entries.now (sym c.any_names.ensures ∙ c.if-not-any_names.true))

pub returns-then-not-any_names-clause-file : goal.returns-then-not-any_names-clause-file
returns-then-not-any_names-clause-file c = c.no_kinds.ensures.file ∙ sym (none_as c.args.inode kinds.File c.args.entries.now (sym c.any_names.ensures ∙ c.if-not-any_names.true))

use Rattle.std.proofs.Common.{◌∙◌, sym}
use Rattle.posix_calls.specs.declared.errno.Errno.TheVariants.{NoEntry, NotDirectory}
use Rattle.workload_cli.proofs.Walks.{directory_has_none, file_has_none}
use Rattle.workload_cli.proofs.area_view.child_of.Goals as goal

pub returns-then-not-is_dir-clause-none : goal.returns-then-not-is_dir-clause-none
returns-then-not-is_dir-clause-none c = (NotDirectory, c.failure_answer.ensures, file_has_none c.args.node.now c.args.name.now (sym c.is_dir.ensures ∙ c.if-not-is_dir.true))

pub returns-in-None-clause-none : goal.returns-in-None-clause-none
returns-in-None-clause-none c = (NoEntry, c.failure_answer-in-None.ensures, directory_has_none c.args.node.now c.args.name.now (sym c.is_dir.ensures ∙ c.if-not-is_dir.false) (sym c.in-None.ensures.inode))

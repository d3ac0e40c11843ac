use Rattle.std.proofs.Common.{◌∙◌, inl, inr, sym}
use Rattle.posix_calls.specs.declared.errno.Errno.TheVariants.{IsDirectory}
use Rattle.call_driver.specs.area_reader.Store.{graph, disk}
use Rattle.workload_cli.proofs.Walks.{directory_is_none}
use Rattle.workload_cli.proofs.area_view.file_itself.Goals as goal

pub returns-in-Some-clause-none : goal.returns-in-Some-clause-none
returns-in-Some-clause-none g c =
    let w = c.args.system.now.system in
    let G = graph w.kernel.area.geometry (disk g.M.Media w.kernel.area) in
    inl (IsDirectory, c.failure_answer.ensures, inr (directory_is_none G c.args.inode c.in-Some.node (sym c.in-Some.is ∙ c.in_ok-node.ensures.node) (sym c.is_dir.ensures ∙ c.if-is_dir.true)))

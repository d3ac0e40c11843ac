use Rattle.std.proofs.Common.{◌∙◌, inl, inr, ap, sym}
use Rattle.posix_calls.specs.declared.errno.Errno.TheVariants.{NoEntry}
use Rattle.call_driver.specs.area_reader.Store.{graph, disk}
use Rattle.workload_cli.proofs.Walks.{child_is, child_there}
use Rattle.workload_cli.proofs.area_view.child.Goals as goal

pub returns-in-None-clause-none : goal.returns-in-None-clause-none
returns-in-None-clause-none g c =
    let w = c.args.system.now.system in
    let G = graph w.kernel.area.geometry (disk g.M.Media w.kernel.area) in
    inl (NoEntry, c.failure_answer.ensures, inr (child_is G c.args.inode c.args.name.now ∙ ap (λ v. child_there v c.args.name.now) (sym c.in_ok-node.ensures.node ∙ c.in-None.is)))

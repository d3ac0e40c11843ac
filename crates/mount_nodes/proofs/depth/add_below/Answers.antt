use Rattle.std.proofs.Common.{inl, Ok, Err}
use Rattle.std.proofs.lemmas.Result.{err_from_is_err_and}
use Rattle.mount_nodes.proofs.RenameLemmas.{looks_behind}
use Rattle.mount_nodes.proofs.UpkeepLemmas.{stat_keeps_up}
use Rattle.mount_nodes.proofs.depth.add_below.Goals as goal

pub returns-in_err-description-clause-looked : goal.returns-in_err-description-clause-looked
returns-in_err-description-clause-looked g c =
    let p = err_from_is_err_and c.from_residual.result c.from_residual.ensures.1 in
    rw (p.1, p.2) (inl (stat_keeps_up g.T.Tree c.args.path.now (Err _) c.args.tree.now c.stat.new.tree c.in_err-description.ensures))

pub returns-in-File-clause-looked : goal.returns-in-File-clause-looked
returns-in-File-clause-looked g c = stat_keeps_up g.T.Tree c.args.path.now (Ok c.in_ok-description.description) c.args.tree.now c.stat.new.tree c.in_ok-description.ensures

pub returns-in-Dir-clause-looked : goal.returns-in-Dir-clause-looked
returns-in-Dir-clause-looked g c = looks_behind g.T.Tree c.args.growth _ _ _ _ (stat_keeps_up g.T.Tree c.args.path.now (Ok c.in_ok-description.description) c.args.tree.now c.stat.new.tree c.in_ok-description.ensures) c.add_listed.ensures

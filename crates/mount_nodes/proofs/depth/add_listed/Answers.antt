use Rattle.std.proofs.lemmas.Result.{err_from_is_err_and}
use Rattle.mount_nodes.proofs.RenameLemmas.{listed, unlisted}
use Rattle.mount_nodes.proofs.UpkeepLemmas.{upkeep_none}
use Rattle.mount_nodes.proofs.depth.add_listed.Goals as goal

pub returns-in_err-names : goal.returns-in_err-names
returns-in_err-names g c =
    let p = err_from_is_err_and c.from_residual.result c.from_residual.ensures.1 in
    rw (p.1, p.2) (unlisted g.T.Tree c.args.path.now c.args.growth _ _ _ _ (upkeep_none g.T.Tree _) c.in_err-names.ensures)

pub returns : goal.returns
returns g c =
    let long = rw c.as_slice.ensures at c.add_names.ensures in
    listed g.T.Tree c.args.path.now c.in_ok-names.names c.args.growth _ _ _ _ (upkeep_none g.T.Tree _) c.in_ok-names.ensures long

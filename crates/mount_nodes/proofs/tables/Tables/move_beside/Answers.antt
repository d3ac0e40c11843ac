use Rattle.std.proofs.lemmas.Result.{err_from_is_err_and}
use Rattle.mount_nodes.proofs.CallLemmas.{asked_err, asked_then}
use Rattle.mount_nodes.proofs.tables.Tables.move_beside.Goals as goal

pub returns-in_err-check_absent-clause-asked : goal.returns-in_err-check_absent-clause-asked
returns-in_err-check_absent-clause-asked g c =
    let looked = rw c.deref.ensures.value at c.in_err-check_absent.ensures in
    let p = err_from_is_err_and c.from_residual.result c.from_residual.ensures.1 in
    rw (p.1, p.2) (asked_err g.T.Tree _ _ _ _ _ _ looked)

pub returns-clause-asked : goal.returns-clause-asked
returns-clause-asked g c =
    let looked = rw c.deref.ensures.value at c.in_ok-check_absent.ensures in
    asked_then g.T.Tree _ _ _ _ _ _ _ _ looked c.move_path.ensures.asked

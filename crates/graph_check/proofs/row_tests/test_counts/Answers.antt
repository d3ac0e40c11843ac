use Rattle.std.proofs.Common.{arith}
use Rattle.std.proofs.lemmas.Result.{err_from_is_err_and}
use Rattle.graph_check.proofs.Rows.{count_finding}
use Rattle.graph_check.proofs.row_tests.test_counts.Goals as goal

pub returns-in_err-test_count-clause-finding : goal.returns-in_err-test_count-clause-finding
returns-in_err-test_count-clause-finding c =
    let p = err_from_is_err_and c.from_residual.result c.from_residual.ensures.1 in
    rw (p.1, p.2) (λ g read. count_finding g c.loop-inode.inode c.row.result _ (omega arith, omega arith) (c.row.ensures g read) c.in_err-test_count.ensures.finding)

use Rattle.std.proofs.Common.{ap, arith}
use Rattle.std.proofs.lemmas.Result.{err_from_is_err_and}
use Rattle.record_validation.specs.file_graph.declared.effect.Kind.TheVariants.{File, Directory}
use Rattle.graph_check.specs.declared.tables.Row.{Row}
use Rattle.graph_check.proofs.Rows.{entry_finding}
use Rattle.graph_check.proofs.row_tests.test_entries.Goals as goal

pub returns-in_err-test_kind-clause-finding : goal.returns-in_err-test_kind-clause-finding
returns-in_err-test_kind-clause-finding c =
    let p = err_from_is_err_and c.from_residual.result c.from_residual.ensures.1 in
    let fact = c.in_err-test_kind.ensures in
    rw (p.1, p.2) (λ g read. let is = c.row-row.ensures g read in entry_finding g File c.loop-place.place c.row-row.result c.row-row.result.files _ (omega arith) is (ap (λ (r : Row). r.files) is) fact.some fact.other fact.finding)

pub returns-in_err-test_kind-2-clause-finding : goal.returns-in_err-test_kind-2-clause-finding
returns-in_err-test_kind-2-clause-finding c =
    let p = err_from_is_err_and c.from_residual-in_err-test_kind-2.result c.from_residual-in_err-test_kind-2.ensures.1 in
    let fact = c.in_err-test_kind-2.ensures in
    rw (p.1, p.2) (λ g read. let is = c.row-row.ensures g read in entry_finding g Directory c.loop-place.place c.row-row.result c.row-row.result.directories _ (omega arith) is (ap (λ (r : Row). r.directories) is) fact.some fact.other fact.finding)

use Rattle.std.proofs.Common.{◌≡◌, true, false, refl, arith}
use Rattle.graph_check.proofs.Rows.{row_directory, row_none}
use Rattle.graph_check.proofs.row_tests.test_root.Goals as goal

pub returns-then-is_directory-clause-fits : goal.returns-then-is_directory-clause-fits
returns-then-is_directory-clause-fits c = λ g read. row_directory g 1 c.row.result c.is_directory.result (omega arith, omega arith) (c.row.ensures g read) c.is_directory.ensures (let t : c.is_directory.result ≡ true = cc in t)

pub returns-clause-finding : goal.returns-clause-finding
returns-clause-finding c = λ g read. (refl, λ dir. row_none g 1 c.row.result c.is_directory.result (omega arith, omega arith) (c.row.ensures g read) c.is_directory.ensures (let t : c.is_directory.result ≡ false = cc in t) dir)

use Rattle.std.proofs.Common.{◌≡◌, true, false}
use Rattle.graph_check.proofs.Rows.{row_directory, row_none}
use Rattle.graph_check.proofs.reachability.is_reached.Goals as goal

pub returns-then-is_directory-clause-directory : goal.returns-then-is_directory-clause-directory
returns-then-is_directory-clause-directory c = λ off g read. row_directory g c.args.inode c.row.result c.is_directory.result (c.requires.low, c.requires.high) (c.row.ensures g read) c.is_directory.ensures (let t : c.is_directory.result ≡ true = cc in t)

pub returns-clause-reached : goal.returns-clause-reached
returns-clause-reached c = λ on g read dir. absurd (row_none g c.args.inode c.row.result c.is_directory.result (c.requires.low, c.requires.high) (c.row.ensures g read) c.is_directory.ensures (let t : c.is_directory.result ≡ false = cc in t) dir)

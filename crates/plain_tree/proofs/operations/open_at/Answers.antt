use Rattle.std.proofs.Common.{Some}
use Rattle.plain_tree.proofs.Tables.{row_set}
use Rattle.plain_tree.proofs.operations.open_at.Goals as goal

pub returns-clause-held : goal.returns-clause-held
returns-clause-held c = row_set c.args.rows.now.items c.args.client c.args.number (Some c.args.what) c.index_mut.result.now c.set.new.self c.requires.low c.requires.high c.index_mut.ensures.value c.set.ensures

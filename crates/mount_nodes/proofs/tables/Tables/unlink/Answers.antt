use Rattle.mount_nodes.proofs.TimeLemmas.{runs_from, written_from}
use Rattle.std.proofs.Common.{inr}
use Rattle.std.proofs.lemmas.Result.{err_from_is_err_and}
use Rattle.mount_nodes.proofs.tables.Tables.unlink.Goals as goal

pub returns-in_err-hold_open-clause-asked : goal.returns-in_err-hold_open-clause-asked
returns-in_err-hold_open-clause-asked g c =
    let p = err_from_is_err_and c.from_residual-in_err-hold_open.result c.from_residual-in_err-hold_open.ensures.1 in
    let refused = rw c.child-known.ensures at c.in_err-hold_open.ensures.asked in
    rw (p.1, p.2) (inr (c.in_ok-path.path.items, c.in_ok-path.ensures.path, inr refused))

pub returns-clause-times : goal.returns-clause-times
returns-clause-times g c = runs_from _ _ _ c.in_ok-hold_open.ensures.times c.leave.ensures.times

pub returns-clause-left : goal.returns-clause-left
returns-clause-left g c = written_from c.args.self.now.times c.hold_open.new.self.times c.leave.new.self.times c.args.folder c.in_ok-hold_open.ensures.times c.leave.ensures.left

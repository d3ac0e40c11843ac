use Rattle.mount_nodes.proofs.TimeLemmas.{on_ok, runs_to, written_to}
use Rattle.std.proofs.Common.{inr}
use Rattle.std.proofs.lemmas.Result.{err_from_is_err_and}
use Rattle.mount_nodes.proofs.CallLemmas.{asked_err, asked_then}
use Rattle.mount_nodes.proofs.tables.Tables.resize_named.Goals as goal

pub returns-in_err-truncate-clause-asked : goal.returns-in_err-truncate-clause-asked
returns-in_err-truncate-clause-asked g c =
    let cut = rw c.deref.ensures.value at c.in_err-truncate.ensures in
    let p = err_from_is_err_and c.from_residual-in_err-truncate.result c.from_residual-in_err-truncate.ensures.1 in
    rw (p.1, p.2) (inr (c.in_ok-path.path.items, c.in_ok-path.ensures.path, asked_err g.T.Tree _ _ _ _ _ _ cut))

pub returns-clause-asked : goal.returns-clause-asked
returns-clause-asked g c =
    let cut = rw c.deref.ensures.value at c.in_ok-truncate.ensures in
    let told = rw c.deref-2.ensures.value at c.tell_known.ensures.asked in
    inr (c.in_ok-path.path.items, c.in_ok-path.ensures.path, asked_then g.T.Tree _ _ _ _ _ _ _ _ cut told)

pub returns-clause-times : goal.returns-clause-times
returns-clause-times g c = runs_to _ _ _ c.write.ensures.runs c.tell_known.ensures.times

pub returns-clause-written : goal.returns-clause-written
returns-clause-written g c = on_ok _ _ (written_to c.args.self.now.times c.write.new.self c.tell_known.new.self.times c.args.id c.write.ensures.written c.tell_known.ensures.times)

use Rattle.std.proofs.Common.{inr}
use Rattle.mount_nodes.proofs.CallLemmas.{asked_then}
use Rattle.mount_nodes.proofs.tables.Tables.make_dir.Goals as goal

pub returns-clause-asked : goal.returns-clause-asked
returns-clause-asked g c =
    let made = rw c.deref.ensures.value at c.in_ok-make_dir_at.ensures in
    let told = rw c.deref-2.ensures.value at c.tell_made.ensures.asked in
    inr (_, c.in_ok-name.ensures.place.1, asked_then g.T.Tree _ _ _ _ _ _ _ _ made told)

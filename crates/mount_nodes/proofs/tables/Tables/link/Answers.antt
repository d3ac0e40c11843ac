use Rattle.mount_nodes.proofs.TimeLemmas.{named_from, named_since, named_to, on_ok, runs_from, runs_then, runs_to, written_from, written_then, written_to}
use Rattle.std.proofs.Common.{inr}
use Rattle.std.proofs.lemmas.Result.{err_from_is_err_and}
use Rattle.mount_nodes.proofs.CallLemmas.{asked_err, asked_then}
use Rattle.mount_nodes.proofs.tables.Tables.link.Goals as goal

pub returns-in_err-enter_link-clause-asked : goal.returns-in_err-enter_link-clause-asked
returns-in_err-enter_link-clause-asked g c =
    let linked = rw (c.deref.ensures.value, c.deref-2.ensures.value) at c.in_err-enter_link.ensures.asked in
    let p = err_from_is_err_and c.from_residual-in_err-enter_link.result c.from_residual-in_err-enter_link.ensures.1 in
    rw (p.1, p.2) (inr (c.in_ok-old.old.items, c.in_ok-old.ensures.path, inr (_, c.in_ok-name.ensures.place.1, inr (asked_err g.T.Tree _ _ _ _ _ _ linked))))

pub returns-clause-asked : goal.returns-clause-asked
returns-clause-asked g c =
    let linked = rw (c.deref.ensures.value, c.deref-2.ensures.value) at c.in_ok-enter_link.ensures.asked in
    let told = rw c.deref-3.ensures.value at c.tell_again.ensures.asked in
    inr (c.in_ok-old.old.items, c.in_ok-old.ensures.path, inr (_, c.in_ok-name.ensures.place.1, inr (asked_then g.T.Tree _ _ _ _ _ _ _ _ linked told)))

pub returns-clause-times : goal.returns-clause-times
returns-clause-times g c = runs_to _ _ _ (runs_from _ _ _ c.in_ok-enter_link.ensures.times (runs_then _ _ _ c.write.ensures.runs c.give_name.ensures.runs)) c.tell_again.ensures.times

pub returns-clause-entered : goal.returns-clause-entered
returns-clause-entered g c = on_ok _ _ (written_to c.args.self.now.times c.give_name.new.self c.tell_again.new.self.times c.args.folder (written_from c.args.self.now.times c.enter_link.new.self.times c.give_name.new.self c.args.folder c.in_ok-enter_link.ensures.times (written_then c.enter_link.new.self.times c.write.new.self c.give_name.new.self c.args.folder c.write.ensures.runs.goes c.write.ensures.written c.give_name.ensures.runs)) c.tell_again.ensures.times)

pub returns-clause-named : goal.returns-clause-named
returns-clause-named g c = on_ok _ _ (named_to c.args.self.now.times c.give_name.new.self c.tell_again.new.self.times c.args.id (named_from c.args.self.now.times c.enter_link.new.self.times c.give_name.new.self c.args.id c.in_ok-enter_link.ensures.times (named_since c.enter_link.new.self.times c.write.new.self c.give_name.new.self c.args.id c.write.ensures.runs.goes c.give_name.ensures.runs.goes c.give_name.ensures.named)) c.tell_again.ensures.times)

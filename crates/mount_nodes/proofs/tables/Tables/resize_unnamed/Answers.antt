use Rattle.mount_nodes.proofs.TimeLemmas.{runs_from, runs_to, written_from, written_to}
use Rattle.std.proofs.Common.{inl, inr, refl, Ok, Err}
use Rattle.std.proofs.lemmas.Result.{err_from_is_err_and}
use Rattle.mount_nodes.proofs.tables.Tables.resize_unnamed.Goals as goal

pub returns-in_err-write_zeros-clause-asked : goal.returns-in_err-write_zeros-clause-asked
returns-in_err-write_zeros-clause-asked g c =
    let zeros = rw (c.zeros_from-from.ensures, c.max.ensures) at c.in_err-write_zeros.ensures in
    let p = err_from_is_err_and c.from_residual-in_err-write_zeros.result c.from_residual-in_err-write_zeros.ensures.1 in
    rw (p.1, p.2) (inr (c.if-size-gt-MAX_FILE.false, inl (c.in_ok-number.number, c.take_descriptor.new.tree, c.in_ok-number.ensures.asked, (Err _, zeros, refl))))

pub returns-clause-asked : goal.returns-clause-asked
returns-clause-asked g c =
    let zeros = rw (c.zeros_from-from.ensures, c.max.ensures) at c.in_ok-write_zeros.ensures in
    inr (c.if-size-gt-MAX_FILE.false, inl (c.in_ok-number.number, c.take_descriptor.new.tree, c.in_ok-number.ensures.asked, (Ok tt, zeros, refl)))

pub returns-clause-times : goal.returns-clause-times
returns-clause-times g c = runs_to _ _ _ (runs_from _ _ _ c.in_ok-number.ensures.times c.write.ensures.runs) c.set_size.ensures

pub returns-clause-written : goal.returns-clause-written
returns-clause-written g c = written_to c.args.self.now.times c.write.new.self c.set_size.new.self.times c.args.id (written_from c.args.self.now.times c.take_descriptor.new.self.times c.write.new.self c.args.id c.in_ok-number.ensures.times c.write.ensures.written) c.set_size.ensures

use Rattle.mount_nodes.proofs.TimeLemmas.{goes_from}
use Rattle.mount_nodes.specs.Times.{GoesOn, IsWritten}
use Rattle.std.proofs.Common.{inl, inr, IfOk, OnOk, subst}
use Rattle.std.proofs.lemmas.Result.{err_from_is_err_and}
use Rattle.mount_nodes.proofs.UpkeepLemmas.{upkeep_none}
use Rattle.mount_nodes.proofs.tables.Tables.make_file.Goals as goal

pub returns-in_err-number-clause-asked : goal.returns-in_err-number-clause-asked
returns-in_err-number-clause-asked g c =
    let p = err_from_is_err_and c.from_residual-in_err-number.result c.from_residual-in_err-number.ensures.1 in
    rw (p.1, p.2) (inr (_, c.in_ok-name.ensures.place.1, inl c.in_err-number.ensures.asked))

pub returns-clause-asked : goal.returns-clause-asked
returns-clause-asked g c =
    let opened = rw (c.deref.ensures.value, c.creation.ensures) at c.in_ok-number.ensures.asked in
    let described = rw c.deref-2.ensures.value at c.tell_made.ensures.asked in
    inr (
      _,
      c.in_ok-name.ensures.place.1,
      inr (record {
        before = opened.0;
        first = opened.1;
        number = c.in_ok-number.number;
        opened = c.open_path.new.tree;
        opens = opened.2;
        asked = c.close_number.new.tree;
        next = c.close_number.ensures;
        described = c.tell_made.new.tree;
        describes = described;
        rest = upkeep_none g.T.Tree _;
      }),
    )

pub returns-clause-times : goal.returns-clause-times
returns-clause-times g c = goes_from _ _ _ c.in_ok-number.ensures.times c.tell_made.ensures.times

pub returns-clause-made : goal.returns-clause-made
returns-clause-made g c = subst (λ x. OnOk c.tell_made.result (IsWritten x c.tell_made.new.self.times c.args.folder)) c.in_ok-number.ensures.times c.tell_made.ensures.made

pub returns-clause-fresh : goal.returns-clause-fresh
returns-clause-fresh g c = subst (λ x. IfOk c.tell_made.result (λ a. IsWritten x c.tell_made.new.self.times a.node)) c.in_ok-number.ensures.times c.tell_made.ensures.fresh

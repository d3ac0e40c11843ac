use Rattle.mount_nodes.proofs.TimeLemmas.{goes_from}
use Rattle.mount_nodes.specs.Times.{GoesOn, IsWritten}
use Rattle.std.proofs.Common.{inl, inr, IfOk, OnOk, subst, sym}
use Rattle.std.proofs.lemmas.Result.{err_from_is_err_and}
use Rattle.mount_nodes.proofs.UpkeepLemmas.{upkeep_none}
use Rattle.mount_nodes.proofs.tables.Tables.create.Goals as goal

pub returns-in_err-number-clause-asked : goal.returns-in_err-number-clause-asked
returns-in_err-number-clause-asked g c =
    let p = err_from_is_err_and c.from_residual-in_err-number.result c.from_residual-in_err-number.ensures.1 in
    rw (p.1, p.2) (inr (_, c.in_ok-name.ensures.place.1, inl c.in_err-number.ensures.asked))

pub returns-clause-asked : goal.returns-clause-asked
returns-clause-asked g c =
    let opened = rw c.deref.ensures.value at c.in_ok-number.ensures.asked in
    let described = rw c.deref-2.ensures.value at c.tell_made-found.ensures.asked in
    inr (
      _,
      c.in_ok-name.ensures.place.1,
      inr (record {
        before = opened.0;
        first = opened.1;
        number = c.in_ok-number.number;
        opened = c.open_path.new.tree;
        opens = opened.2;
        asked = c.open_path.new.tree;
        next = upkeep_none g.T.Tree _;
        described = c.tell_made-found.new.tree;
        describes = described;
        rest = c.keep_open.ensures.asked;
      }),
    )

pub returns-clause-times : goal.returns-clause-times
returns-clause-times g c = subst (λ x. GoesOn c.args.self.now.times x) (sym c.keep_open.ensures.times) (goes_from _ _ _ c.in_ok-number.ensures.times c.tell_made-found.ensures.times)

pub returns-clause-made : goal.returns-clause-made
returns-clause-made g c = subst (λ x. OnOk c.tell_made-found.result (IsWritten c.args.self.now.times x c.args.folder)) (sym c.keep_open.ensures.times) (subst (λ x. OnOk c.tell_made-found.result (IsWritten x c.tell_made-found.new.self.times c.args.folder)) c.in_ok-number.ensures.times c.tell_made-found.ensures.made)

pub returns-clause-fresh : goal.returns-clause-fresh
returns-clause-fresh g c = subst (λ x. IfOk c.tell_made-found.result (λ a. IsWritten c.args.self.now.times x a.node)) (sym c.keep_open.ensures.times) (subst (λ x. IfOk c.tell_made-found.result (λ a. IsWritten x c.tell_made-found.new.self.times a.node)) c.in_ok-number.ensures.times c.tell_made-found.ensures.fresh)

use Rattle.std.proofs.Common.{◌+◌, ◌≤◌, IfOk, IfSome, length, take, subst, arith, length-take-le}
use Rattle.std.specs.Io.KnownBytes.{Consumes}
use Rattle.std.proofs.BufReadLemmas.{Consumes_shown}
use Rattle.script.proofs.LineLemmas.{shown_front, newline_behind}
use Rattle.script.proofs.script.part.add_part.Goals as goal

pub returns-then-len-clause-adds : goal.returns-then-len-clause-adds
returns-then-len-clause-adds g c =
    let shown = c.in-Ok.shown.now in
    let len = c.line_len-len.result in (
      take len shown,
      c.line_len-len.ensures.before,
      omega (arith, length-take-le len shown c.line_len-len.ensures.bound),
      shown_front _ shown len c.line_len-len.ensures.bound c.in-Ok.ensures.front,
    )

pub returns-then-len-shown-clause-adds : goal.returns-then-len-shown-clause-adds
returns-then-len-shown-clause-adds g c =
    let shown = c.in-Ok.shown.now in
    let len = c.line_len-len.result in
    let is = c.in-Ok.ensures in
    let old = g.R.Read.remaining c.args.reader.now in
    let left = g.R.Read.remaining c.consume.new.self in
    let kept = g.R.Read.remaining c.fill_buf.follows.lender-at-none in
    let limit = g.R.BufRead.consumable_len c.fill_buf.follows.lender-at-none in
    let held = c.fill_buf.follows.holds-at-none in
    let fits = subst (λ r. IfSome old (λ _. IfOk r (λ s. IfSome limit (λ n. length s.now ≤ n)))) c.in-Ok.is held.1 in
    let taken = Consumes_shown old kept left limit shown (len + 1) (omega (arith, c.if-len-shown.true)) is.front is.end held.0 fits c.consume.ensures.bytes in (
      take len shown,
      c.in_ok-extend_from_slice.ensures.items,
      c.line_len-len.ensures.before,
      subst (Consumes old left) (newline_behind shown len c.if-len-shown.true (c.line_len-len.ensures.newline c.if-len-shown.true)) taken.0,
    )

pub returns-clause-adds : goal.returns-clause-adds
returns-clause-adds g c =
    let shown = c.in-Ok.shown.now in
    let len = c.line_len-len.result in
    let is = c.in-Ok.ensures in
    let old = g.R.Read.remaining c.args.reader.now in
    let left = g.R.Read.remaining c.consume-2.new.self in
    let kept = g.R.Read.remaining c.fill_buf.follows.lender-at-none in
    let limit = g.R.BufRead.consumable_len c.fill_buf.follows.lender-at-none in
    let held = c.fill_buf.follows.holds-at-none in
    let fits = subst (λ r. IfSome old (λ _. IfOk r (λ s. IfSome limit (λ n. length s.now ≤ n)))) c.in-Ok.is held.1 in
    let taken = Consumes_shown old kept left limit shown len c.line_len-len.ensures.bound is.front is.end held.0 fits c.consume-2.ensures.bytes in
    (take len shown, c.in_ok-extend_from_slice.ensures.items, c.line_len-len.ensures.before, taken.0)

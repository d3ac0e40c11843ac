use Rattle.std.proofs.Common.{arith, ◌+◌, ◌==◌, nat_lt, ap, sym, ◌∙◌}
use Rattle.std.proofs.lemmas.Bool.Decides.{nat_tests}
use Rattle.posix_calls.specs.declared.limits.TheConstants.{MAX_FILE, MAX_TRANSFER}
use Rattle.posix_calls.proofs.Chain.{exits, gives, bind_gives, bind_stops, passes, fails, write_nothing, write_some, tells_is}
use Rattle.posix_calls.specs.Decide.{pwrite}
use Rattle.posix_calls.proofs.descriptor_calls.pwrite.Goals as goal

pub returns-in_err-inode-clause-answer : goal.returns-in_err-inode-clause-answer
unfolding pwrite
returns-in_err-inode-clause-answer c = λ p. exits c.from_residual.ensures.1 (bind_stops _ (c.in_err-inode.ensures.answer _))

pub returns-in_err-refuse_if-clause-answer : goal.returns-in_err-refuse_if-clause-answer
unfolding pwrite
returns-in_err-refuse_if-clause-answer c =
    λ p. exits c.from_residual-in_err-refuse_if.ensures.1 (bind_gives _ (c.in_ok-inode.ensures.answer _) (fails _ _ c.in_err-refuse_if.ensures.refused.0 (ap (nat_lt MAX_TRANSFER) (sym c.len-len.ensures) ∙ c.in_err-refuse_if.ensures.refused.1)))

pub returns-in_err-refuse_if-2-clause-answer : goal.returns-in_err-refuse_if-2-clause-answer
unfolding pwrite
returns-in_err-refuse_if-2-clause-answer c =
    let is = sym c.len-len.ensures in
    let some = c.if-len-eq0.false in
    let clear = ap (nat_lt MAX_TRANSFER) is ∙ c.in_ok-refuse_if.ensures.clear in
    λ p. exits c.from_residual-in_err-refuse_if-2.ensures.1 (bind_gives _ (c.in_ok-inode.ensures.answer _) (passes _ _ clear (tells_is (write_some _ _ c.args.bytes.now (grind (arith, nat_tests, is, some))) (fails _ _ c.in_err-refuse_if-2.ensures.refused.0 (ap (λ n. nat_lt MAX_FILE (c.args.at + n)) is ∙ sym c.ends_behind.ensures ∙ c.in_err-refuse_if-2.ensures.refused.1)))))

pub returns-then-len-eq0-clause-answer : goal.returns-then-len-eq0-clause-answer
unfolding pwrite
returns-then-len-eq0-clause-answer c =
    let is = sym c.len-len.ensures in
    let clear = ap (nat_lt MAX_TRANSFER) is ∙ c.in_ok-refuse_if.ensures.clear in
    λ p. bind_gives _ (c.in_ok-inode.ensures.answer _) (passes _ _ clear (tells_is (write_nothing _ _ c.args.bytes.now (ap (λ n. n == 0) (is ∙ c.if-len-eq0.true))) gives))

pub returns-clause-answer : goal.returns-clause-answer
unfolding pwrite
returns-clause-answer c =
    let is = sym c.len-len.ensures in
    let some = c.if-len-eq0.false in
    let clear = ap (nat_lt MAX_TRANSFER) is ∙ c.in_ok-refuse_if.ensures.clear in
    let ends = ap (λ n. nat_lt MAX_FILE (c.args.at + n)) is ∙ sym c.ends_behind.ensures ∙ c.in_ok-refuse_if-2.ensures.clear in
    λ p. rw c.in_ok-bytes.ensures (bind_gives _ (c.in_ok-inode.ensures.answer _) (passes _ _ clear (tells_is (write_some _ _ c.args.bytes.now (grind (arith, nat_tests, is, some))) (passes _ _ ends gives))))

use Rattle.std.proofs.Common.{sym, ◌∙◌, ap, nat_lt}
use Rattle.posix_calls.specs.Walk.{size_seen}
use Rattle.posix_calls.proofs.Chain.{exits, gives, gives_as, look_seen, look_missing}
use Rattle.posix_calls.proofs.descriptor_calls.empties.Goals as goal

pub returns-then-not-truncate-clause-answer : goal.returns-then-not-truncate-clause-answer
returns-then-not-truncate-clause-answer g c = rw c.if-not-truncate.true gives

pub returns-in_err-size-clause-answer : goal.returns-in_err-size-clause-answer
returns-in_err-size-clause-answer g c = rw c.if-not-truncate.false (exits c.from_residual.ensures.1 (look_missing size_seen _ c.in_err-size.ensures.missing.0 (sym c.file_size.ensures ∙ c.in_err-size.ensures.missing.1)))

pub returns-clause-answer : goal.returns-clause-answer
returns-clause-answer g c = rw c.if-not-truncate.false (look_seen size_seen _ (sym c.file_size.ensures ∙ c.in_ok-size.ensures.known) (λ s is. gives_as (ap (nat_lt 0) is)))

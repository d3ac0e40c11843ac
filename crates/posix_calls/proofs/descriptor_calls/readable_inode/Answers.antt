use Rattle.std.proofs.Common.{sym, ◌∙◌}
use Rattle.posix_calls.proofs.Chain.{exits, opened_passes, opened_fails, opened_none, not_false, not_true}
use Rattle.posix_calls.proofs.descriptor_calls.readable_inode.Goals as goal

pub returns-in_default-clause-answer : goal.returns-in_default-clause-answer
returns-in_default-clause-answer c = λ p. opened_none (λ d. d.reads) (sym c.get.ensures ∙ c.in_default.is)

pub returns-in_err-refuse_if-clause-answer : goal.returns-in_err-refuse_if-clause-answer
returns-in_err-refuse_if-clause-answer c = λ p. exits c.from_residual.ensures.1 (opened_fails (λ d. d.reads) c.in-Some.descriptor (sym c.get.ensures ∙ c.in-Some.is) c.in_err-refuse_if.ensures.refused.0 (not_false _ c.in_err-refuse_if.ensures.refused.1))

pub returns-clause-answer : goal.returns-clause-answer
returns-clause-answer c = λ p. opened_passes (λ d. d.reads) c.in-Some.descriptor (sym c.get.ensures ∙ c.in-Some.is) (not_true _ c.in_ok-refuse_if.ensures.clear)

use Rattle.std.proofs.Common.{sym, ◌∙◌, true, refl}
use Rattle.posix_calls.proofs.Chain.{opened_passes, opened_none}
use Rattle.posix_calls.proofs.descriptor_calls.open_inode.Goals as goal

pub returns-in-Some-clause-answer : goal.returns-in-Some-clause-answer
returns-in-Some-clause-answer c = λ p. opened_passes (λ d. true) c.in-Some.descriptor (sym c.get.ensures ∙ c.in-Some.is) refl

pub returns-in-None-clause-answer : goal.returns-in-None-clause-answer
returns-in-None-clause-answer c = λ p. opened_none (λ d. true) (sym c.get.ensures ∙ c.in-None.is)

use Rattle.posix_calls.proofs.Chain.{gives, refuses}
use Rattle.posix_calls.proofs.descriptor_calls.free_number.Goals as goal

pub returns-in-Some-clause-answer : goal.returns-in-Some-clause-answer
returns-in-Some-clause-answer c = λ p. rw (← c.lowest_free.ensures, c.in-Some.is) gives

pub returns-in-None-clause-answer : goal.returns-in-None-clause-answer
returns-in-None-clause-answer c = λ p. rw (← c.lowest_free.ensures, c.in-None.is) refuses

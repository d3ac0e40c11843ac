use Rattle.posix_calls.proofs.Chain.{gives, refuses}
use Rattle.posix_calls.proofs.walk.there.Goals as goal

pub returns-in-Some-clause-answer : goal.returns-in-Some-clause-answer
returns-in-Some-clause-answer c = λ p. rw c.in-Some.is gives

pub returns-in-None-clause-answer : goal.returns-in-None-clause-answer
returns-in-None-clause-answer c = λ p. rw c.in-None.is refuses

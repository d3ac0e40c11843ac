use Rattle.posix_calls.specs.Operations.{answer}
use Rattle.posix_calls.proofs.Steps.{reply_same, state_same, number_unused}
use Rattle.posix_calls.proofs.laws.step_is_determined.Goals as goal

pub returns-clause-reply : goal.returns-clause-reply
returns-clause-reply c = λ old client call i j r s m n f g. reply_same old client i j (answer old client call) r s m n f g

pub returns-clause-state : goal.returns-clause-state
returns-clause-state c = λ old client call i r s m n f g. state_same old client i (answer old client call) r s m n f g

pub returns-clause-number : goal.returns-clause-number
returns-clause-number c = number_unused

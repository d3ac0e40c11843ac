use Rattle.posix_calls.proofs.Parts.{known_is_run, missing_is_left}
use Rattle.posix_calls.proofs.laws.part_answers_as_the_whole.Goals as goal

pub returns-clause-known : goal.returns-clause-known
returns-clause-known c = λ p v part q r known. known_is_run p v part q r known

pub returns-clause-missing : goal.returns-clause-missing
returns-clause-missing c = λ p q i missing. missing_is_left p q i missing

use Rattle.posix_calls.proofs.Silent.{decide_silent, blocks_for_pread}
use Rattle.posix_calls.proofs.laws.bytes_are_for_pread_alone.Goals as goal

pub returns-clause-asked : goal.returns-clause-asked
returns-clause-asked c = λ own call other. decide_silent own call other

pub returns-clause-missing : goal.returns-clause-missing
returns-clause-missing c = λ p own call i first many is. blocks_for_pread p own call i first many is

use Rattle.kernel_fs.specs.Inodes.{has}
use Rattle.kernel_fs.proofs.Members.{count_passing, member}
use Rattle.kernel_fs.proofs.book_laws.members_are_those_of_the_set.Goals as goal

pub returns-clause-among : goal.returns-clause-among
returns-clause-among c = member

pub returns-clause-once : goal.returns-clause-once
returns-clause-once c = λ rows. count_passing (has rows) 1024

use Rattle.layout.proofs.DirectoryLaws.{entries_of_again}
use Rattle.layout.proofs.laws.entries_are_read.Goals as goal

pub returns : goal.returns
returns c = entries_of_again

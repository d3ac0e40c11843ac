use Rattle.layout.proofs.DirectoryLaws.{entries_of_takes}
use Rattle.layout.proofs.laws.entries_are_spelled.Goals as goal

pub returns : goal.returns
returns c = entries_of_takes

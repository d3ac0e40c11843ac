use Rattle.kernel_fs.proofs.SealedRecords.{effects_are}
use Rattle.kernel_fs.proofs.laws.effects_of_records_are_the_records.Goals as goal

pub returns : goal.returns
returns c = λ g rs. effects_are rs g

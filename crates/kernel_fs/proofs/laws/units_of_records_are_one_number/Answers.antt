use Rattle.kernel_fs.proofs.SealedRecords.{units_same}
use Rattle.kernel_fs.proofs.laws.units_of_records_are_one_number.Goals as goal

pub returns : goal.returns
returns c = units_same

use Rattle.log_record.proofs.ReadLengths.{record_of_long}
use Rattle.log_record.proofs.laws.read_is_as_long.Goals as goal

pub returns : goal.returns
returns c = record_of_long

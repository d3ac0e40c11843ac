use Rattle.log_record.proofs.Records.{one_spelling}
use Rattle.log_record.proofs.laws.no_spelling_begins_another.Goals as goal

pub returns : goal.returns
returns c = one_spelling

use Rattle.log_record.proofs.Records.{record_again, record_of_again}
use Rattle.log_record.proofs.laws.written_is_read.Goals as goal

pub returns-clause-front : goal.returns-clause-front
returns-clause-front c = record_again

pub returns-clause-whole : goal.returns-clause-whole
returns-clause-whole c = record_of_again

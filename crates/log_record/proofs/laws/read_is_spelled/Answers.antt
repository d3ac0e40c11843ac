use Rattle.log_record.proofs.Records.{record_takes, record_of_takes}
use Rattle.log_record.proofs.laws.read_is_spelled.Goals as goal

pub returns-clause-front : goal.returns-clause-front
returns-clause-front c = λ bytes rest r are e. record_takes bytes (r, rest) are e

pub returns-clause-whole : goal.returns-clause-whole
returns-clause-whole c = record_of_takes

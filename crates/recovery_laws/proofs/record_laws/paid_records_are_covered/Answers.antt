use Rattle.recovery_laws.proofs.RecordCovers.{covered}
use Rattle.recovery_laws.proofs.record_laws.paid_records_are_covered.Goals as goal

pub returns : goal.returns
returns c = covered

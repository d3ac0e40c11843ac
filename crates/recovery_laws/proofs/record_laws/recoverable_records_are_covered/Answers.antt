use Rattle.recovery_laws.proofs.RecordCovers.{all_covered, charged, never}
use Rattle.recovery_laws.proofs.record_laws.recoverable_records_are_covered.Goals as goal

pub returns : goal.returns
returns c = record {
  covered = λ capacity held g logs c first rest r is_c split spelled all. all_covered capacity g logs c first rest r is_c split held spelled all;
  charged = charged;
  never = λ capacity held g logs c first rest n k r is_c split spelled all. never capacity g logs c first rest r is_c split held spelled all n k;
}

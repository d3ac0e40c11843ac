use Rattle.file_graph.proofs.Touches.{rows_commute}
use Rattle.log_record.proofs.laws.apart_records_commute.Goals as goal

pub returns : goal.returns
returns c = λ g r s. rows_commute g r.effects s.effects

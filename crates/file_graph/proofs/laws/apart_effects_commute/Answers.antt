use Rattle.file_graph.proofs.Touches.{effects_commute, rows_commute}
use Rattle.file_graph.proofs.laws.apart_effects_commute.Goals as goal

pub returns-clause-single : goal.returns-clause-single
returns-clause-single c = effects_commute

pub returns-clause-rows : goal.returns-clause-rows
returns-clause-rows c = rows_commute

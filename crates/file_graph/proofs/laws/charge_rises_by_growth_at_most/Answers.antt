use Rattle.file_graph.proofs.Touches.{charge_rises}
use Rattle.file_graph.proofs.laws.charge_rises_by_growth_at_most.Goals as goal

pub returns : goal.returns
returns c = charge_rises

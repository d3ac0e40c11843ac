use Rattle.file_graph.proofs.Swaps.{swaps_cost_nothing, swaps_last}
use Rattle.file_graph.proofs.ToldNames.{told_alike}
use Rattle.file_graph.proofs.laws.swaps_come_last.Goals as goal

pub returns-clause-costs : goal.returns-clause-costs
returns-clause-costs c = swaps_cost_nothing

pub returns-clause-last : goal.returns-clause-last
returns-clause-last c = swaps_last

pub returns-clause-entered : goal.returns-clause-entered
returns-clause-entered c = told_alike

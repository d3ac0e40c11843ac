use Rattle.graph_change.proofs.Runs.{run_is}
use Rattle.graph_change.proofs.block_change.BlockChange.of.Goals as goal

pub returns : goal.returns
returns c = λ p. run_is c.args.place c.args.part p

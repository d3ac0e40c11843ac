use Rattle.std.proofs.Common.{arith}
use Rattle.std.proofs.lemmas.Grind.{common_steps}
use Rattle.script.proofs.RunLaws.{all_runs-none}
use Rattle.script.proofs.runs.are_runs.Goals as goal

pub returns : goal.returns
returns c = grind (arith, common_steps, all_runs-none)

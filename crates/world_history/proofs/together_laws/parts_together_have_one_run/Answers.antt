use Rattle.world_history.proofs.Together.{one_run}
use Rattle.world_history.proofs.together_laws.parts_together_have_one_run.Goals as goal

pub returns : goal.returns
returns r s parts coherent together = one_run s parts coherent together

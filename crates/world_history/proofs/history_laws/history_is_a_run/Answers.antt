use Rattle.world_history.proofs.Keeping.{history_keeps}
use Rattle.world_history.proofs.history_laws.history_is_a_run.Goals as goal

pub returns-clause-coherent : goal.returns-clause-coherent
returns-clause-coherent r s h coherent is = (history_keeps s h coherent is).holds

pub returns-clause-run : goal.returns-clause-run
returns-clause-run r s h coherent is = (history_keeps s h coherent is).run

use Rattle.world_invariant.proofs.Recoveries.{recovered_sound, recovered_fits, settled_same}
use Rattle.world_invariant.proofs.recovery_laws.recovered_graph_is_sound.Goals as goal

pub returns-clause-sound : goal.returns-clause-sound
returns-clause-sound c = recovered_sound

pub returns-clause-fits : goal.returns-clause-fits
returns-clause-fits c = recovered_fits

pub returns-clause-within : goal.returns-clause-within
returns-clause-within c = λ capacity g logs r. r.limits

pub returns-clause-state : goal.returns-clause-state
returns-clause-state c = settled_same

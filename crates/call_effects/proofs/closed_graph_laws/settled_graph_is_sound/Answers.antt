use Rattle.call_effects.proofs.Settled.{closed_sound, settled_sound, closed_state, settled_state, settled_well_formed, settled_within}
use Rattle.call_effects.proofs.closed_graph_laws.settled_graph_is_sound.Goals as goal

pub returns-clause-closed : goal.returns-clause-closed
returns-clause-closed c = closed_sound

pub returns-clause-sound : goal.returns-clause-sound
returns-clause-sound c = settled_sound

pub returns-clause-closed_state : goal.returns-clause-closed_state
returns-clause-closed_state c = closed_state

pub returns-clause-state : goal.returns-clause-state
returns-clause-state c = settled_state

pub returns-clause-well_formed : goal.returns-clause-well_formed
returns-clause-well_formed c = settled_well_formed

pub returns-clause-within : goal.returns-clause-within
returns-clause-within c = settled_within
